-- What the structs of include/jdr.h hold.
pub mod PaintComputed
pub mod Values
pub mod ValueLaws
pub mod ValueCases
