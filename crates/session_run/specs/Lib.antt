-- What the functions of a session promise.
pub mod Cursors
pub mod Digit
pub mod Steps
pub mod Wholes
pub mod Told
pub mod Insides
pub mod Objects
pub mod Running
pub mod Advancing
