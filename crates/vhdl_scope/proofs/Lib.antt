-- The lemmas on rows, links, names and tables.
pub mod BitLemmas
pub mod LookLemmas
pub mod WorkLemmas
pub mod SpreadLemmas
pub mod KeyLemmas
pub mod NameLemmas
pub mod ScopeLemmas
pub mod OwnLemmas
pub mod RowLemmas
pub mod JoinLemmas
pub mod OwnGroups
pub mod OwnedLemmas
pub mod Exact
pub mod ReadyLemmas
pub mod TableLemmas
