-- The lemmas.
pub mod GraphPrefixes
pub mod Below
