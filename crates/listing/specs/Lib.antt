-- The rows whose objects have a label, and what the listing answers.
pub mod Entries
pub mod EntryLaws
pub mod CharLaws
pub mod LabelLaws
pub mod ListLaws
