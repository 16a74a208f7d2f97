-- The lemmas.
pub mod ReportLoops
pub mod Values
pub mod Walks
pub mod Counts
pub mod NoFloats
pub mod Depths
