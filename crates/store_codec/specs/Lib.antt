-- The definitions.
pub mod Forms
pub mod RecordTables
pub mod Ranges
pub mod Writing
pub mod Compaction
pub mod Layouts
