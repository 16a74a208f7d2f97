-- The definitions.
pub mod Jobs
pub mod Reading
pub mod Written
