-- Rows of bits, and what hands their numbers on.
pub mod Bits
pub mod Rows
pub mod LinkLists
pub mod Links
pub mod Work
pub mod Order
pub mod Names
pub mod Wants
pub mod Owned
pub mod Scopes
pub mod Groups
pub mod GroupOrder
pub mod Graph
pub mod Joins
pub mod Exact
pub mod Tables
