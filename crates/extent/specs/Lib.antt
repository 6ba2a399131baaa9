-- The box around an outline, as it is found in the words of a table.
pub mod Points
pub mod BoxLaws
pub mod PointLaws
pub mod OutlineWordLaws
pub mod OutlineLaws
pub mod ExtentQuestion
pub mod ExtentLaws
