-- That what `read` answers stays within what was lent.
pub mod Within
pub mod WithinLaws
