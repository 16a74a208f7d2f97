-- The definitions.
pub mod PackageScans
pub mod PackageLinks
pub mod PackageExamples
pub mod BenchScans
pub mod NumberedFiles
pub mod ListedNumbers
