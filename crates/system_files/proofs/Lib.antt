-- The lemmas.
mod Prefixes
mod Listings
mod LineParts
