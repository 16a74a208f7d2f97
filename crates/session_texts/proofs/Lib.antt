-- The lemmas.
mod Listings
mod OverlayPaths
pub mod TextLemmas
mod TextLaws
mod ListedOnce
mod TextExamples
