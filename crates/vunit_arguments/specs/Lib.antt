-- The definitions.
pub mod Arguments
