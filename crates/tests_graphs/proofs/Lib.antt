-- The lemmas.
pub mod Spelled
pub mod Records
pub mod Flags
pub mod Closings
pub mod Distinct
pub mod Standing
pub mod FoundRecords
