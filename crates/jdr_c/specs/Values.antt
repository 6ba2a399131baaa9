-- The answers of the questions as programs in C get them: the structs of include/jdr.h, from the answers of crates/drawing/specs/Questions.antt.
use Rattle.std.specs.Prelude.{◌≡◌, cond, List, [], ◌∷◌, ℕ, eqb, Float}
use Rattle.std.proofs.Math.Option.{Option, none, some}
use Rattle.drawing.specs.declared.Paint.{Paint}
use Rattle.drawing.specs.declared.Paint.TheVariants.{Transparent, Rgb, Cmyk, Grey, Hsb}
use Rattle.drawing.specs.declared.Which.{Which}
use Rattle.drawing.specs.declared.Which.TheVariants.{Line, Fill, Text}
use Rattle.drawing.specs.Paint as P
use Rattle.drawing.specs.Object.{Object}
use Rattle.drawing.specs.Questions.{float_of, refusal, part_of, paint_part, PaintGiven, paint_given, paint_of}
use Rattle.promises.specs.Promises.{OfTable}
use Rattle.jdr_c.specs.declared.Color.{Color}
use Rattle.jdr_c.specs.declared.GivenPaint.{GivenPaint}
use Rattle.jdr_c.specs.PaintComputed.{paint_computed}

-- ---- a plain paint

-- What stands in an unused component.
abbrev pub plus_zero : Float
plus_zero = float_of 0

abbrev pub color : (kind : ℕ) → (a b c d e : Float) → Color
color kind a b c d e = record { kind = kind; components = a ∷ b ∷ c ∷ d ∷ e ∷ [] }

-- The kind's number, and the components in file order, alpha last.
abbrev pub color_of : Paint → Color
color_of Transparent = color 0 plus_zero plus_zero plus_zero plus_zero plus_zero
color_of (Rgb r g b a) = color 1 r g b a plus_zero
color_of (Cmyk c m y k a) = color 2 c m y k a
color_of (Grey g a) = color 3 g a plus_zero plus_zero plus_zero
color_of (Hsb h s b a) = color 4 h s b a plus_zero

-- ---- a paint

-- What an answer says (`paint_given`): the number, the form (0 plain, 1 linear, 2 radial), the gradient's integer, and the plain paints.
abbrev pub paint_struct : PaintGiven → GivenPaint
paint_struct g =
    record { number = g.answer.number; form = g.form; place = g.direction_or_location; first = color_of g.first; second = color_of g.second }

-- The part that a number stands for; a number above 2 is a part that no object has.
abbrev pub part_numbered : ℕ → Option Which
part_numbered n = cond (eqb n 0) (some Line) (cond (eqb n 1) (some Fill) (cond (eqb n 2) (some Text) none))

-- The paint of the part of this number, where an object has the part.
abbrev pub paint_numbered : Option Which → Object → Option P.Paint
paint_numbered (some which) o = paint_part which o
paint_numbered none o = none

-- What `jdr_paint` promises, for every two runs of words, every row and every number of a part: the struct for the drawing's paint, and by an equation
-- that computes it.
pub record PaintsForC (contents bodies : List ℕ) (row which : ℕ) (r : GivenPaint) : Type 0 where
  pub decides : OfTable contents bodies (λ d. paint_struct (paint_of (part_of (paint_numbered (part_numbered which)) row d))) (paint_struct (paint_of (refusal 16))) r
  pub says : r ≡ paint_struct (paint_given (paint_computed contents bodies row (part_numbered which)))
