-- The definitions: words, the token cut, the unit grammar, where units are, references, visible libraries and dependencies.
pub mod Words
pub mod Tokens
pub mod Units
pub mod Scans
pub mod UnitIndices
pub mod Passing
pub mod References
pub mod Visibility
pub mod Dependencies
