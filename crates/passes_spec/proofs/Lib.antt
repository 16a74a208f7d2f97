-- The lemmas.
pub mod SameTests
pub mod KnownEnds
