-- Contracts over a way.
pub mod Lays
pub mod Groups
