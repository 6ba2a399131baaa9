-- Examples of what C gets, computed by the checker: a colour of each kind, a paint of each form, and the refusals of a part that no object has.
use Rattle.std.specs.Prelude.{◌≡◌, refl, List, [], ◌∷◌, map, ℕ}
use Rattle.std.proofs.Math.Option.{none, some}
use Rattle.drawing.specs.declared.Paint.{Paint}
use Rattle.drawing.specs.declared.Paint.TheVariants.{Transparent, Rgb, Cmyk, Grey, Hsb}
use Rattle.drawing.specs.declared.PaintAnswer.TheVariants.{Refused, Plain, Linear, Radial}
use Rattle.drawing.specs.declared.Which.TheVariants.{Line, Fill, Text}
use Rattle.drawing.specs.Questions.{float_of, paint_given}
use Rattle.jdr_c.specs.declared.Color.{Color}
use Rattle.jdr_c.specs.declared.GivenPaint.{GivenPaint}
use Rattle.jdr_c.specs.Values.{color_of, paint_struct, part_numbered}
use Rattle.jdr_c.specs.PaintComputed.{paint_computed}

-- Components by their bits, which do not matter here but for 0, which is +0.
abbrev colored : ℕ → (a b c d e : ℕ) → Color
colored kind a b c d e = record { kind = kind; components = float_of a ∷ float_of b ∷ float_of c ∷ float_of d ∷ float_of e ∷ [] }

abbrev clear : Color
clear = colored 0 0 0 0 0 0

abbrev grey : Paint
grey = Grey (float_of 1) (float_of 2)

abbrev hsb : Paint
hsb = Hsb (float_of 3) (float_of 4) (float_of 5) (float_of 6)

colors : map color_of (Transparent ∷ Rgb (float_of 1) (float_of 2) (float_of 3) (float_of 4) ∷ Cmyk (float_of 1) (float_of 2) (float_of 3) (float_of 4) (float_of 5) ∷ grey ∷ hsb ∷ [])
    ≡ clear ∷ colored 1 1 2 3 4 0 ∷ colored 2 1 2 3 4 5 ∷ colored 3 1 2 0 0 0 ∷ colored 4 3 4 5 6 0 ∷ []
colors = refl

abbrev painted : (number form place : ℕ) → (first second : Color) → GivenPaint
painted number form place first second = record { number = number; form = form; place = place; first = first; second = second }

paints : map (λ a. paint_struct (paint_given a)) (Refused 7 ∷ Plain grey ∷ Linear grey hsb 7 ∷ Radial hsb Transparent 8 ∷ [])
    ≡ painted 7 0 0 clear clear
    ∷ painted 0 0 0 (colored 3 1 2 0 0 0) clear
    ∷ painted 0 1 7 (colored 3 1 2 0 0 0) (colored 4 3 4 5 6 0)
    ∷ painted 0 2 8 (colored 4 3 4 5 6 0) clear
    ∷ []
paints = refl

parts : map part_numbered (0 ∷ 1 ∷ 2 ∷ 3 ∷ 4294967295 ∷ []) ≡ some Line ∷ some Fill ∷ some Text ∷ none ∷ none ∷ []
parts = refl

-- A table of version 1.0: the outer group, and a bitmap with the name a.
abbrev contents : List ℕ
contents = 1 ∷ 0 ∷ 18 ∷ 2 ∷ 4 ∷ 0 ∷ 2 ∷ 16 ∷ []

abbrev bodies : List ℕ
bodies = 0 ∷ 0 ∷ 1 ∷ 97 ∷ 0 ∷ 0 ∷ 0 ∷ 0 ∷ 0 ∷ 0 ∷ 0 ∷ 0 ∷ 0 ∷ 0 ∷ 0 ∷ 0 ∷ 0 ∷ 0 ∷ 1 ∷ 0 ∷ []

-- Part 3: of a table that is none, of a row that is not there, and of rows that are.
no_part : (paint_computed contents [] 0 (part_numbered 3) ≡ Refused 16)
    × (map (λ row. paint_computed contents bodies row (part_numbered 3)) (2 ∷ 1 ∷ 0 ∷ []) ≡ Refused 6 ∷ Refused 7 ∷ Refused 7 ∷ [])
no_part = (refl, refl)
