-- The definitions of this crate.
pub mod Csv
pub mod Steps
pub mod NewNames
pub mod Paths
pub mod Toml
pub mod Forms
pub mod PathRows
pub mod Libraries
pub mod Few
pub mod Pairs
