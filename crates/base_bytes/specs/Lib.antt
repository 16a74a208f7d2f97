-- The definitions.
pub mod Reading
pub mod Names
pub mod Ranges
pub mod TextRefs
pub mod Sizes
