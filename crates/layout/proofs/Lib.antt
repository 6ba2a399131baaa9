-- What is picked of the bytes and the words of a run.
pub mod Picking
