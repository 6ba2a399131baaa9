-- What the examples share: a file written as the list of its fields, with the bytes of each field (01, 'Fields') and the words that
-- hold it in a table (01, 'The table').
use Rattle.std.specs.Prelude.{ℕ, zero, suc, ◌^◌, List, [], ◌∷◌, ◌++◌, length}
use Prim.Native.Char.{Char, code}
use Prim.Native.String.{String as Quoted, len, char_at}
use Rattle.format.specs.Digits.{digits}
use Rattle.drawing.specs.Path.{Point}

-- A value is given by its bits, so -1 as an integer is 0xFFFF_FFFF.
pub data Item : Type 0 where
  byte flag int float double : ℕ → Item
  char : Char → Item
  -- a string whose chars are given by their codes: its length and the chars
  coded : List ℕ → Item

-- The codes of a quoted text's characters, which are to be ASCII: so many of them, from this one on.
abbrev pub codes_from : ℕ → ℕ → Quoted → List ℕ
codes_from zero i s = []
codes_from (suc n) i s = code (char_at s i) ∷ codes_from n (suc i) s

abbrev pub codes : Quoted → List ℕ
codes s = codes_from (len s) 0 s

abbrev pub string : Quoted → Item
string s = coded (codes s)

abbrev pub spread : (ℕ → List ℕ) → List ℕ → List ℕ
spread f [] = []
spread f (n ∷ ns) = f n ++ spread f ns

-- Big-endian; a char has two bytes, an integer and a float four, a double eight.
abbrev pub item_bytes : Item → List ℕ
item_bytes (byte n) = digits 256 1 n
item_bytes (flag n) = digits 256 1 n
item_bytes (int n) = digits 256 4 n
item_bytes (float n) = digits 256 4 n
item_bytes (double n) = digits 256 8 n
item_bytes (char c) = digits 256 2 (code c)
item_bytes (coded s) = digits 256 4 (length s) ++ spread (digits 256 2) s

-- One word for each but a double, which has its high half first.
abbrev pub item_words : Item → List ℕ
item_words (byte n) = n ∷ []
item_words (flag n) = n ∷ []
item_words (int n) = n ∷ []
item_words (float n) = n ∷ []
item_words (double n) = digits (2 ^ 32) 2 n
item_words (char c) = code c ∷ []
item_words (coded s) = length s ∷ s

abbrev pub bytes : List Item → List ℕ
bytes [] = []
bytes (f ∷ fs) = item_bytes f ++ bytes fs

abbrev pub words : List Item → List ℕ
words [] = []
words (f ∷ fs) = item_words f ++ words fs

abbrev pub floats : List ℕ → List Item
floats [] = []
floats (n ∷ ns) = float n ∷ floats ns

abbrev pub doubles : List ℕ → List Item
doubles [] = []
doubles (n ∷ ns) = double n ∷ doubles ns

-- What every file begins with; the version's last char is given.
abbrev pub head : Char → List Item
head minor = char "J" ∷ char "D" ∷ char "R" ∷ int 3 ∷ char "1" ∷ char "." ∷ char minor ∷ []

-- The same fields, with another byte for true in each flag.
abbrev pub otherwise : Item → Item
otherwise (byte n) = byte n
otherwise (flag zero) = flag 0
otherwise (flag (suc n)) = flag 255
otherwise (int n) = int n
otherwise (float n) = float n
otherwise (double n) = double n
otherwise (char c) = char c
otherwise (coded s) = coded s

-- ---- for the trees

abbrev pub at : ℕ → ℕ → Point
at x y = record { x = x; y = y }
