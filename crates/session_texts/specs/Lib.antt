-- The definitions.
pub mod Texts
pub mod Entries
pub mod OverlayTrees
pub mod OverlayTreeLaws
pub mod Examples
