-- The definitions.
pub mod Passes
pub mod KnownRuns
pub mod PassImages
