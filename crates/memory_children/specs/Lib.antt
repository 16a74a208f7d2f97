-- The definitions: what the children answer, and that there is one such answer.
pub mod Answers
pub mod OneAnswer
