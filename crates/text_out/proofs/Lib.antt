-- What the buffer holds behind bytes that all fit.
pub mod Fitting
