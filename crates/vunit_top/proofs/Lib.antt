-- The lemmas.
pub mod Tops
pub mod RunTruths
pub mod TestTruths
mod ActTruths
mod GenerateTruths
mod Frames
pub mod Whole
