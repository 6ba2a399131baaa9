-- Words stored and bytes written: the contracts, and their laws.
pub mod Sizes
pub mod SizeLaws
pub mod ValueLaws
pub mod Runs
pub mod StoreLaws
pub mod FitLaws
pub mod CharLaws
pub mod Spelled
pub mod PackedRunLaws
pub mod WordLaws
