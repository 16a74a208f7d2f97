-- The lemmas.
pub mod Fields
pub mod Many
pub mod NameFields
pub mod Ranging
pub mod LongNumbers
pub mod CountedWords
pub mod Sized
