-- The sizes of fields, in bytes.
use Rattle.std.specs.Prelude.{Bool, ◌||◌, ℕ, eqb}

-- a byte, a char, a word, or a double
abbrev pub is_field : ℕ → Bool
is_field n = eqb n 1 || (eqb n 2 || (eqb n 4 || eqb n 8))

-- the sizes of fields that come in runs: a char, a float, a double
abbrev pub is_run : ℕ → Bool
is_run n = eqb n 2 || (eqb n 4 || eqb n 8)

-- the sizes of those that are one word each: a char, a float
abbrev pub is_short : ℕ → Bool
is_short n = eqb n 2 || eqb n 4
