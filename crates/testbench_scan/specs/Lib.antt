-- The definitions.
pub mod Benches
pub mod Files
pub mod Architectures
pub mod Results
pub mod Steps
pub mod Paths
