-- What a question about a paint, a text or a description answers.
pub mod Asking
pub mod RowQuestions
pub mod PaintQuestion
pub mod PaintLaws
pub mod TextQuestion
pub mod TextLaws
pub mod DescriptionQuestion
pub mod DescriptionLaws
pub mod PaintQuestionLaws
