-- The lemmas of this crate.
pub mod Utf8Test
pub mod Splits
pub mod CsvProject
pub mod ReadItems
pub mod PathSteps
pub mod LibrarySteps
pub mod MatchSteps
pub mod TomlNames
pub mod FewSteps
pub mod LibrarySum
pub mod PairSteps
pub mod FewFiles
pub mod FewLinks
pub mod TomlTables
mod TomlValid
