-- The lemmas.
pub mod CleanEnds
pub mod TrueRequests
pub mod OldStores
pub mod MadeNumbers
pub mod BothReadings
pub mod PassedRuns
pub mod SaidOfSizes
pub mod Answered
pub mod Examples
mod ChainTruths
mod Promises
mod Turns
mod GeneratedSizes
