-- The examples, chapter by chapter.
pub mod Example
pub mod Graphs
pub mod Builds
pub mod Recorded
pub mod Starts
pub mod JournalSides
pub mod StoredRequests
pub mod SaidTexts
pub mod OutsideObjects
pub mod WordsAndSources
pub mod AskedTasks
pub mod RunReadings
pub mod MadeFiles
pub mod BuildHistories
pub mod TestedRuns
