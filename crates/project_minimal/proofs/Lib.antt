-- The lemmas.
pub mod Tests
mod SupplierLemmas
mod TakingLemmas
mod Supplied
mod IndexLemmas
mod Walk
pub mod Least
mod Restricting
mod NeededParts
mod RankLaws
