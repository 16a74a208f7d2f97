-- The definitions.
pub mod TrueViews
pub mod SaidOfSizes
pub mod SizeExamples
pub mod Chains
pub mod Promise
