-- The lemmas.
pub mod EdgeLists
