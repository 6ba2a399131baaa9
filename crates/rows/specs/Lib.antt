-- The words of rows.
pub mod Rows
pub mod Cells
pub mod RowLaws
pub mod Stores
