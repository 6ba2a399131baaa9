-- The hash of lent memory.
pub mod Hash
