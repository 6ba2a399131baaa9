-- The sheet of a drawing's table (R-3): the row count and the word count, the contents, then the bodies. The two counts and the numbers of the contents have
-- so many bytes each, a word of the bodies four; all are big-endian.
use Rattle.std.specs.Prelude.{◌≡◌, ℕ, List, ◌∷◌, ◌++◌, length}
use Rattle.format.specs.Digits.{all_digits}
use Rattle.drawing.specs.Drawing.{Drawing, outer, Acceptable}
use Rattle.drawing.specs.Table.{rows, contents_of, bodies_of}

-- the bytes of a count and of a number in the contents
abbrev pub number_bytes : ℕ
number_bytes = 2

-- the bytes of a word in the bodies
abbrev pub word_bytes : ℕ
word_bytes = 4

abbrev pub sheet_of : (width : ℕ) → Drawing → List ℕ
sheet_of width d =
    all_digits 256 width (rows (outer d) ∷ length (bodies_of d) ∷ contents_of d) ++ all_digits 256 word_bytes (bodies_of d)

-- The bytes are an acceptable drawing's sheet.
pub record IsSheet (sheet : List ℕ) (d : Drawing) : Type 0 where
  pub acceptable : Acceptable d
  pub bytes_are : sheet ≡ sheet_of number_bytes d
