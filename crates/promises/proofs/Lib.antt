-- That each promise follows from its call's equation.
pub mod PromiseLaws
pub mod MarkedReads
