-- The definitions.
pub mod Queries
pub mod Reading
pub mod Sources
pub mod Scanning
pub mod Asked
