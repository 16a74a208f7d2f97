-- The lemmas.
pub mod Examples
pub mod Spelling
pub mod Deciding
pub mod Once
pub mod Sized
pub mod Layouts
