-- The definitions.
pub mod MinimalSet
pub mod Suppliers
pub mod Taking
pub mod Sources
pub mod Needing
pub mod Nothing
