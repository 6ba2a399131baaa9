-- What the reader's descent comes to, by what the file parses to.
pub mod Descents
pub mod FieldsAt
pub mod BodyLaws
pub mod ObjectLaws
pub mod MemberLaws
pub mod GroupLaws
pub mod Heads
pub mod OuterLaws
pub mod Files
pub mod FileLaws
pub mod ReadLaws
