-- Example files, one in full for each version, with the drawings and tables that 01 gives them; and files that are refused.
pub mod Bytes
pub mod Whole
pub mod File10
pub mod File11
pub mod File12
pub mod File13
pub mod File14
pub mod File15
pub mod EmptyGroups
pub mod SheetCases
pub mod Cases
pub mod PathCases
pub mod Refusals
pub mod Tables
pub mod AnswerCases
pub mod ExtentCases
