-- How the paint question is answered, and how the paint that stands at a place is read.
use Rattle.std.specs.Prelude.{◌≡◌, cond, not, ℕ, ◌+◌, ◌<◌, List, [], ◌∷◌, length, get_or, T, eqb, Result, Ok, Err}
use Prim.Native.Char.{code}
use Rattle.std.specs.Float.{binary32}
use Rattle.std.specs.Float.Ieee.{nan_bits}
use Rattle.std.proofs.Math.Option.{none, some}
use Rattle.drawing.specs.declared.PaintAnswer.{PaintAnswer}
use Rattle.drawing.specs.declared.PaintAnswer.TheVariants.{Refused}
use Rattle.drawing.specs.declared.Which.{Which}
use Rattle.drawing.specs.Paint as P
use Rattle.drawing.specs.Object.{Object}
use Rattle.drawing.specs.Questions.{part, paint_value, paint_part}
use Rattle.laws.specs.RowBodies.{RowBody}
use Rattle.laws.specs.Standing.{Here}
use Rattle.questions.specs.declared.asked.Refusal.{Refusal}
use Rattle.questions.specs.Asking.{number_of}

-- The answer with what was found: the paint, or a refusal.
abbrev pub paint_found : Result PaintAnswer Refusal → PaintAnswer
paint_found (Ok p) = p
paint_found (Err e) = Refused (number_of e)

-- An object has the paint that stands at this place.
pub record Painted (bodies : List ℕ) (v : ℕ) (which : Which) (o : Object) (at : ℕ) : Type 0 where
  pub paint : P.Paint
  pub here : Here (P.paint v) bodies at paint
  pub part-is : paint_part which o ≡ some paint

-- The object of a row has it here, or has no such paint.
abbrev pub PaintedAt : (contents bodies : List ℕ) → (v r : ℕ) → Which → ℕ → Type 0
PaintedAt c bs v r which at = (o : Object) → RowBody c bs v r o → Painted bs v which o at

abbrev pub Unpainted : (contents bodies : List ℕ) → (v r : ℕ) → Which → Type 0
Unpainted c bs v r which = (o : Object) → RowBody c bs v r o → paint_part which o ≡ none

-- The answer for the paint that stands here.
abbrev pub PaintRead : (bodies : List ℕ) → (version at : ℕ) → PaintAnswer → Type 0
PaintRead bs v at r = (p : P.Paint) → Here (P.paint v) bs at p → r ≡ paint_value (part p)

-- ---- plain paints

-- The plain paint of a letter and of the words behind it.
abbrev pub plain_of : (letter a b c d e : ℕ) → P.Plain
plain_of letter a b c d e =
    cond (eqb letter (code "R")) (P.rgb a b c d)
    (cond (eqb letter (code "C")) (P.cmyk a b c d e)
    (cond (eqb letter (code "Y")) (P.grey a b)
    (cond (eqb letter (code "S")) (P.hsb a b c d) P.transparent)))

unfoldable pub plain_at : List ℕ → ℕ → P.Plain
plain_at ws at =
    plain_of (get_or ws at 0) (get_or ws (at + 1) 0) (get_or ws (at + 2) 0) (get_or ws (at + 3) 0) (get_or ws (at + 4) 0) (get_or ws (at + 5) 0)

abbrev pub components_of : P.Plain → List ℕ
components_of P.transparent = []
components_of (P.rgb r g b a) = r ∷ g ∷ b ∷ a ∷ []
components_of (P.cmyk c m y k a) = c ∷ m ∷ y ∷ k ∷ a ∷ []
components_of (P.grey g a) = g ∷ a ∷ []
components_of (P.hsb h s b a) = h ∷ s ∷ b ∷ a ∷ []

-- Bits that are no NaN's.
abbrev pub Number : ℕ → Type 0
Number bits = T (not (nan_bits binary32 bits))

abbrev pub Numbers : List ℕ → Type 0
Numbers [] = Unit {0}
Numbers (x ∷ xs) = Number x × Numbers xs

-- A plain paint stands here: behind its letter are its components, and they are numbers.
pub record PlainHere (ws : List ℕ) (at : ℕ) : Type 0 where
  pub inside : at + length (components_of (plain_at ws at)) < length ws
  pub numbers : Numbers (components_of (plain_at ws at))
