-- The lemmas.
pub mod Spelling
pub mod Deciding
pub mod Once
pub mod Numbers
pub mod SpelledPasses
pub mod TablePasses
pub mod Examples
