-- The lemmas.
mod Borrowed
mod Found
mod Passes
mod RecordCounts
mod TestsThen
pub mod FreshTickets
pub mod Answering
mod WholeTests
mod BothParts
mod TestsAfter
pub mod CleanLibraries
pub mod TestedRights
pub mod HistorySteps
pub mod TestsEnded
