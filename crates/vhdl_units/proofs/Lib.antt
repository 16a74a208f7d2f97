-- The lemmas.
pub mod Counting
pub mod Levels
pub mod DelimiterTable
pub mod Walks
pub mod Reaching
pub mod Adding
pub mod Exact
