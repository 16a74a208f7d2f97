-- The definitions.
pub mod Stored
