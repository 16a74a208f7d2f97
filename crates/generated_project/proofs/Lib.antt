-- The lemmas.
pub mod Packages
mod Paths
mod Indices
