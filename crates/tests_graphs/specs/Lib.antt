-- The definitions.
pub mod Spelling
pub mod Reading
pub mod Validity
