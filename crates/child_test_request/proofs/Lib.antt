-- The lemmas.
pub mod BenchFields
pub mod Pairs
pub mod Sizes
pub mod WrittenRuns
