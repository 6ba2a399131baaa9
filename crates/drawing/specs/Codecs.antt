-- How fields are spelled in a file and in a table (01, 'Fields', 'The table'; R-4).
use Rattle.std.specs.Prelude.{cond, ℕ, zero, suc, ◌^◌, ◌+◌, ◌/◌}
use Rattle.format.specs.Kind.{Shape, is_flag, size}
use Rattle.format.specs.FixedCodec.{Fixed, itself}
use Rattle.drawing.specs.Numbers.{cut, bad_flag, no_table}

-- What a byte is as a flag: 0 is false, and any other is true, whose value is 1.
abbrev pub truth : ℕ → ℕ
truth zero = 0
truth (suc n) = 1

-- The value that a field's number stands for in a file: a flag's is true or false, and any other field's is its value.
abbrev pub meant : Shape → ℕ → ℕ
meant s x = cond (is_flag s) (truth x) x

-- A file: every field its bytes, big-endian. A field that is cut is 2. Every number stands for a value, so nothing is meaningless, and 5 is never given.
abbrev pub byte_fields : Fixed
byte_fields =
    record { base = 256; width = size; meaning = λ s x. itself s (meant s x); missing = cut; meaningless = bad_flag }

-- A table: as many 32-bit words as hold the field's bytes, so one for a field of up to four bytes and two, the high half first, for a double.
-- A word that no value of the field has, as a flag's other than 0 and 1, is 16, as everything is that is wrong with a table.
abbrev pub word_fields : Fixed
word_fields = record { base = 2 ^ 32; width = λ s. (size s + 3) / 4; meaning = itself; missing = no_table; meaningless = no_table }
