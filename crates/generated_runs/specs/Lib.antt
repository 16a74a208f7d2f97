-- The definitions.
pub mod Sources
pub mod Said
pub mod Ran
