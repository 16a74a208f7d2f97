-- The lemmas.
mod Builds
mod Tests
mod Rights
pub mod Parts
