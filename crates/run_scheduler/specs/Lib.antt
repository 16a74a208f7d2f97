-- The definitions.
pub mod Plans
pub mod Counts
pub mod Machines
pub mod Rows
