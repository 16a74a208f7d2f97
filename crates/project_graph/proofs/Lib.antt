-- The lemmas on rows of bits and on linked graphs.
pub mod RowSteps
pub mod LinkedGraphs
