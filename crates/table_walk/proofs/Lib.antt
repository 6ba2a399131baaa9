-- What a call over any words says, said of a table's.
mod TableLaws
