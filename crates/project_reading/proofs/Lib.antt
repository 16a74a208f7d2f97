-- The lemmas.
pub mod Asks
mod Afters
mod TextLemmas
mod ScanLemmas
mod Listings
mod LinkLemmas
mod Steps
mod Strings
mod UnitNames
mod ReadBenches
mod Fitting
