-- What the buffer of the programs' output holds.
pub mod Held
