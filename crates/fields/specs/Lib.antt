-- The laws of tests and of signed numbers that judging a field needs.
pub mod Tests
pub mod SignedLaws
