-- The lemmas.
pub mod Tested
pub mod Jobs
pub mod WrittenInput
pub mod Spelled
