-- The definitions.
pub mod Codes
pub mod Commands
