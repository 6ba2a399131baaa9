-- Laws of the drawing layer that need no definition above them.
pub mod ObjectLaws
pub mod KindLaws
