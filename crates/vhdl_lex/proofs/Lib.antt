-- The lemmas on the scanner: its tables, its lexical elements, and the steps of a cut.
pub mod Classes
pub mod Delimited
pub mod WordTable
pub mod WordRoles
pub mod DelimiterRoles
pub mod Rows
pub mod Longest
pub mod Steps
pub mod Lanes
pub mod Exact
