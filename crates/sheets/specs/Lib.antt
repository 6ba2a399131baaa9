-- What judging, reading and writing a sheet come to, and their laws.
pub mod Judging
pub mod JudgingLaws
pub mod Copying
pub mod CopyingLaws
pub mod ReadingLaws
pub mod Packing
pub mod PackingLaws
