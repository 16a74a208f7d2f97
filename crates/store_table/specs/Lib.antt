-- The definitions.
pub mod ProductRows
pub mod Located
pub mod Checked
pub mod Cuts
pub mod NumberSets
