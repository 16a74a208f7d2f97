-- The definitions.
pub mod Files
pub mod Lines
pub mod HeldFiles
