-- The definitions of this crate.
pub mod Keys
pub mod KeyOrder
pub mod Joined
pub mod Indexes
pub mod Libraries
pub mod Rows
pub mod Meanings
pub mod Linking
pub mod Results
