-- What counting a table comes to, and what a walk over a whole table says of the answers.
pub mod Counting
pub mod AnswerLaws
