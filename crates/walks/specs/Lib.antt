-- What the code that walks over a table is held to, and its laws: of plain lists, wherever rows and words lie.
pub mod Walks
pub mod RowLaws
pub mod BodyLaws
pub mod WalkingLaws
pub mod LeafWalkLaws
pub mod MemberWalkLaws
pub mod OwnWalkLaws
pub mod GroupWalkLaws
pub mod ObjectWalkLaws
pub mod FileWalks
pub mod FileWalkLaws
