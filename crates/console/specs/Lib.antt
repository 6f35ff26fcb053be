-- Answers: the text that two sheets are answered with.
pub mod Answers
