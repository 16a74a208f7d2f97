-- The lemmas.
mod Prefixes
mod Parts
mod Matched
mod Left
mod Sets
mod PatternParts
pub mod Decided
mod Chosen
mod Selected
pub mod Starts
