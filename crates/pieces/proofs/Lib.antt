-- That the calls of a session keep what they promise.
pub mod SessionLaws
