-- The definitions: the lines of artefacts, and how a child ends.
pub mod Lines
pub mod Ends
