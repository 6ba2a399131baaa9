-- What the calls on a session, by value, promise.
pub mod Changes
pub mod Holding
pub mod Feeding
pub mod Turning
pub mod Giving
