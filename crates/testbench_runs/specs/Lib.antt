-- The definitions.
pub mod Runs
pub mod Configuration
pub mod BenchJobs
pub mod Verdicts
pub mod Lines
pub mod Starts
