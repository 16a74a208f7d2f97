-- The lemmas of this crate.
pub mod KeyLemmas
pub mod JoinedLemmas
pub mod IndexLemmas
pub mod RowLemmas
pub mod MeaningLemmas
pub mod LinkLemmas
pub mod UnitLemmas
pub mod FileLemmas
pub mod EdgeLemmas
mod ExternalLemmas
pub mod InsideLemmas
