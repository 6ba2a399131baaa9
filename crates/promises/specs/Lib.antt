-- What each call of the library promises, and that each promise follows from the call's equation.
pub mod Promises
