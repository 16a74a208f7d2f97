-- The definitions.
pub mod Patterns
pub mod Matching
pub mod Segments
pub mod Fits
pub mod Selection
pub mod Choosing
