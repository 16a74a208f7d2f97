-- The definitions.
pub mod Rights
pub mod Spares
