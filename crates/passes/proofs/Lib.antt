-- The lemmas.
pub mod PassMoments
pub mod Commits
pub mod Compacted
