-- The lemmas.
mod ClauseSteps
mod IndexSteps
mod Leads
mod DotSteps
mod ComponentSteps
mod LexicalElements
mod Calling
mod Quotes
mod Counted
mod Placing
mod Passed
mod ByHand
pub mod OutlineLemmas
