-- Where the parts of a body stand, and what rows say of it.
pub mod Places
pub mod Parts
pub mod PartLaws
pub mod Rows
pub mod RowLaws
pub mod EndLaws
