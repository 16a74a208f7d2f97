-- The definitions.
pub mod Commands
pub mod Examples
pub mod Scripts
pub mod Steps
