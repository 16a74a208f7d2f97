-- The lemmas.
pub mod Latest
mod Orderly
mod StatusesThen
mod RecordsThen
mod Unchecked
mod EventsThen
mod Borrowed
mod Gathering
mod Acknowledging
mod FirstFaults
mod UnderWayThen
mod EndsThen
mod JournalThen
mod BeginThen
mod WholeBuilds
pub mod Preparing
pub mod BorrowedFiles
pub mod OverStore
