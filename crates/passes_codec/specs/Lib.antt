-- The definitions.
pub mod Forms
pub mod Ranges
pub mod PassTables
pub mod Compaction
