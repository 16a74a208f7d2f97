-- The lemmas.
mod Stopping
