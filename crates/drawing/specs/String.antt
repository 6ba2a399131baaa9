-- Strings: an integer n and n chars, each char a field of its own (01, 'Fields').
use Rattle.std.specs.Prelude.{Bool, true, false, ◌&&◌, ℕ, ◌-◌, List, [], ◌∷◌, length, eqb}
use Rattle.format.specs.Layout.{Layout, field, threaded, implied}
use Rattle.format.specs.FormatLaws.{each-length}
use Rattle.drawing.specs.Fields.{string_length, string_char}

abbrev pub String : Type 0
String = List ℕ

-- n chars, of which the last knows that it is the last.
abbrev pub chars : ℕ → Layout String
chars n = threaded n (λ left. field (string_char (eqb left 1))) (λ left c. left - 1) n

-- A string of at least so many chars.
abbrev pub string : ℕ → Layout String
string least =
    implied
    (field (string_length least))
    chars
    length
    (λ n s allowed each. each-length (λ left. (field (string_char (eqb left 1))).Good) (λ left c. left - 1) n n s each)

-- The two are the same, element by element and in length: a label is compared whole (01, 'Numbers given back').
abbrev pub equal : List ℕ → List ℕ → Bool
equal [] [] = true
equal [] (y ∷ ys) = false
equal (x ∷ xs) [] = false
equal (x ∷ xs) (y ∷ ys) = eqb x y && equal xs ys
