-- The lemmas.
pub mod ListingLemmas
mod ChildLogLemmas
mod TableLemmas
mod LogLemmas
mod ReadsLemmas
mod CrashLemmas
