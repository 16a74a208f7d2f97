-- The lemmas.
pub mod FirstLines
pub mod NextLines
pub mod ScriptExamples
pub mod ScriptSteps
