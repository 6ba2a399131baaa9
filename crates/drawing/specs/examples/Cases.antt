-- A case of a file with the number and the offset that 01 gives it, and pieces that the files of many cases begin with.
use Rattle.std.specs.Prelude.{ℕ, zero, suc, List, [], ◌∷◌, ◌++◌}
use Prim.Native.Char.{Char}
use Rattle.drawing.specs.examples.Bytes.{Item, byte, flag, int, float, char, string, bytes, doubles, head}

-- Number 0 is for a file that is accepted; its offset is then the file's length.
pub record Case : Type 0 where
  pub file : List ℕ
  pub number : ℕ
  pub offset : ℕ

-- ---- pieces, with their places in a file without settings whose outer group has one object

abbrev pub times : ℕ → List Item → List Item
times zero fs = []
times (suc n) fs = fs ++ times n fs

abbrev pub raw : List Item → (number offset : ℕ) → Case
raw fs n o = record { file = bytes fs; number = n; offset = o }

-- What follows the version of a file; it begins at 16.
abbrev pub file : Char → List Item → (number offset : ℕ) → Case
file minor fs n o = raw (head minor ++ fs) n o

-- What follows the outer group's count; it begins at 23. The settings are a flag or a byte.
abbrev pub object : Char → List Item → (number offset : ℕ) → Case
object minor fs n o = file minor (byte 0 ∷ char "G" ∷ int 1 ∷ fs) n o

-- A transformation.
abbrev pub zeros : List Item
zeros = doubles (0 ∷ 0 ∷ 0 ∷ 0 ∷ 0 ∷ 0 ∷ [])

-- A bitmap up to its flow flag: name at 25, flag at 31, doubles from 32 on, flow flag at 80.
abbrev pub bitmap : List Item
bitmap = char "I" ∷ string "a" ∷ flag 0 ∷ zeros

-- A path's paints, at 25 and 27; the width is at 29, the dash count at 33.
abbrev pub paints : List Item
paints = char "P" ∷ char "T" ∷ char "T" ∷ []

-- A path up to its markers: cap 37, join 38, winding 39. The markers begin at 40.
abbrev pub style : List Item
style = paints ++ float 0 ∷ int 0 ∷ byte 0 ∷ byte 1 ∷ byte 0 ∷ []

-- A marker of 1.1 or later, of 11 bytes, that orients itself and is an overlay; at 40 its repeat is at 45, reversed 46, auto-orient 47,
-- paint 48 and overlay 50.
abbrev pub marker : List Item
marker = byte 1 ∷ float 0 ∷ byte 1 ∷ flag 0 ∷ flag 1 ∷ char "T" ∷ flag 1 ∷ []

-- A path up to its count: in 1.0 with two markers it is at 44, later with three at 45.
abbrev pub outline : Char → List Item
outline c = style ++ byte 0 ∷ byte 0 ∷ char c ∷ []

abbrev pub outline3 : Char → List Item
outline3 c = style ++ byte 0 ∷ byte 0 ∷ byte 0 ∷ char c ∷ []

-- A text up to its LaTeX flag, at 83: family 25, shape 29, series 30, size 31.
abbrev pub text : List Item
text = char "T" ∷ string "" ∷ byte 0 ∷ byte 0 ∷ int 0 ∷ zeros

-- A text along a path up to its O or C, at 92: paint 25, family 27, size 33, LaTeX flag 85, text 86; the count is at 94, the start at 98.
abbrev pub text_path : List Item
text_path = char "X" ∷ char "T" ∷ string "" ∷ byte 0 ∷ byte 0 ∷ int 0 ∷ zeros ++ flag 0 ∷ string "a" ∷ []

-- All settings up to the tool, at 20; then the normal size is at 24 and the paper at 28.
abbrev pub flags : List Item
flags = byte 1 ∷ flag 0 ∷ flag 1 ∷ flag 0 ∷ []
