-- The definitions.
pub mod CompiledTexts
pub mod CompiledFiles
pub mod CompiledExamples
pub mod AnswerExamples
pub mod TestedBench
pub mod BenchTests
pub mod TestExamples
