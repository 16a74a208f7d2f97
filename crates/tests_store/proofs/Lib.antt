-- The lemmas.
mod Fitting
mod PassSteps
