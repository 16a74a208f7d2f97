-- The definitions.
pub mod Bytes
pub mod Names
pub mod Graphs
pub mod Projects
pub mod Jobs
pub mod View
pub mod PresentGraph
