-- What each case of the paint question's answer says, and which of two texts is shown.
use Rattle.std.specs.Prelude.{◌≡◌, refl, ℕ, List, [], ◌∷◌, map, length}
use Rattle.drawing.specs.declared.Paint as Enum
use Rattle.drawing.specs.declared.Paint.TheVariants as Case
use Rattle.drawing.specs.declared.PaintAnswer.TheVariants.{Refused, Plain, Linear, Radial}
use Rattle.drawing.specs.Questions.{float_of, given, paint_given, shown}
use Rattle.drawing.specs.examples.Bytes.{codes}

-- The paints of the cases; their components do not matter here.
abbrev grey : Enum.Paint
grey = Case.Grey (float_of 0) (float_of 1)

abbrev rgb : Enum.Paint
rgb = Case.Rgb (float_of 2) (float_of 3) (float_of 4) (float_of 5)

-- A refusal's paint is transparent; a plain paint is the first of two; a gradient has its two plain paints and its integer.
cases : map paint_given (Refused 16 ∷ Refused 6 ∷ Plain grey ∷ Linear grey rgb 7 ∷ Radial rgb grey 8 ∷ [])
    ≡ given 16 0 Case.Transparent Case.Transparent 0
    ∷ given 6 0 Case.Transparent Case.Transparent 0
    ∷ given 0 0 grey Case.Transparent 0
    ∷ given 0 1 grey rgb 7
    ∷ given 0 2 rgb grey 8
    ∷ []
cases = refl

-- The alternative where it has a char, even one, and the plain text otherwise, even where it has none.
abbrev shown_of : List ℕ → List ℕ → List ℕ
shown_of alternative plain = shown (length alternative) alternative plain

shown-cases : (shown_of [] (codes "plain") ≡ codes "plain")
    × (shown_of (codes "a") (codes "plain") ≡ codes "a")
    × (shown_of (codes "longer") [] ≡ codes "longer")
    × (shown_of [] [] ≡ [])
shown-cases = (refl, refl, refl, refl)
