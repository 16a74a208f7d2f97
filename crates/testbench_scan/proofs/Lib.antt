-- The lemmas.
mod Utf8Test
mod Located
mod Numbering
mod Owners
mod Repeats
mod Founds
mod Distinct
mod ByHand
mod Leading
mod Spelling
