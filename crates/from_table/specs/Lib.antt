-- The way.
pub mod Way
