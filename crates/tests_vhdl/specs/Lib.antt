-- The definitions.
pub mod Deps
pub mod Outlines
