-- The lemmas.
pub mod BenchRuns
pub mod NameSets
pub mod Sayings
