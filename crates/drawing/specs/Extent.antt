-- The box around an outline (R-5): the least and the greatest coordinates of its points, and what the call about it answers.
use Rattle.std.specs.Prelude.{Bool, true, false, cond, ◌||◌, ℕ, List, [], ◌∷◌, ◌++◌, leb, pos, Float}
use Rattle.std.proofs.Math.Option.{Option, none, some}
use Rattle.std.specs.Float.{fin, binary64}
use Rattle.std.specs.Float.Ieee.{of_bits, nan_bits, lt}
use Rattle.drawing.specs.Numbers.{not_a_number}
use Rattle.drawing.specs.Limits.{v1_3}
use Rattle.drawing.specs.declared.Extent.{Extent}
use Rattle.drawing.specs.declared.ExtentAnswer.{ExtentAnswer}
use Rattle.drawing.specs.declared.Answer.{Answer}
use Rattle.drawing.specs.Path.{Point, Segment, curve, line, move, Outline}
use Rattle.drawing.specs.Object.{Leaf, path, text, bitmap, text_path}
use Rattle.drawing.specs.Drawing.{Drawing}
use Rattle.drawing.specs.Answers.{answer}
use Rattle.drawing.specs.Questions.{Found, part, refusal, part_of, leaf_part}

-- ---- the points

-- The points of a segment in file order, control points included. A start of its own is a field below 1.3.
abbrev pub segment_points : (own : Bool) → Segment → List Point
segment_points true (curve s p q e) = s ∷ p ∷ q ∷ e ∷ []
segment_points true (line s e) = s ∷ e ∷ []
segment_points true (move s e) = s ∷ e ∷ []
segment_points false (curve s p q e) = p ∷ q ∷ e ∷ []
segment_points false (line s e) = e ∷ []
segment_points false (move s e) = e ∷ []

abbrev pub all_points : (own : Bool) → List Segment → List Point
all_points own [] = []
all_points own (s ∷ ss) = segment_points own s ++ all_points own ss

-- The points of an outline in file order: from 1.3 on its start and then those of its segments; below, those of its segments, each with its own start first.
abbrev pub outline_points : ℕ → Outline → List Point
outline_points v o = cond (leb v1_3 v) (o.start ∷ all_points false o.segments) (all_points true o.segments)

-- ---- the box

-- A coordinate, as the value that its bits stand for.
abbrev pub coordinate : ℕ → Float
coordinate bits = of_bits binary64 bits

-- A later coordinate takes the place of the one that was kept only if it is strictly less, or strictly greater.
abbrev pub lesser : (kept later : Float) → Float
lesser kept later = cond (lt later kept) later kept

abbrev pub greater : (kept later : Float) → Float
greater kept later = cond (lt kept later) later kept

-- The box of one point.
abbrev pub box_at : Point → Extent
box_at p = record { left = coordinate p.x; bottom = coordinate p.y; right = coordinate p.x; top = coordinate p.y }

-- A box, widened by a later point.
abbrev pub widened : Extent → Point → Extent
widened b p =
    record {
      left = lesser b.left (coordinate p.x);
      bottom = lesser b.bottom (coordinate p.y);
      right = greater b.right (coordinate p.x);
      top = greater b.top (coordinate p.y);
    }

-- And by all of them, in their order.
abbrev pub widened_by : Extent → List Point → Extent
widened_by b [] = b
widened_by b (p ∷ ps) = widened_by (widened b p) ps

-- Four positive zeros.
abbrev pub no_box : Extent
no_box = record { left = fin false 0 (pos 0); bottom = fin false 0 (pos 0); right = fin false 0 (pos 0); top = fin false 0 (pos 0) }

-- It begins at the first point. An outline has one.
abbrev pub box_of : List Point → Extent
box_of [] = no_box
box_of (p ∷ ps) = widened_by (box_at p) ps

-- Some coordinate is not a number.
abbrev pub any_na_n : List Point → Bool
any_na_n [] = false
any_na_n (p ∷ ps) = nan_bits binary64 p.x || (nan_bits binary64 p.y || any_na_n ps)

-- ---- the answer

-- What R-5 asks of the answer: the number, with offset and counts 0, and the box.
pub record ExtentGiven : Type 0 where
  pub answer : Answer
  pub extent : Extent

-- It, for the public answer.
abbrev pub extent_given : ExtentAnswer → ExtentGiven
extent_given r = record { answer = answer r.number 0 0 0; extent = r.extent }

abbrev pub no_extent : ℕ → ExtentGiven
no_extent n = record { answer = answer n 0 0 0; extent = no_box }

-- And for an outline in a drawing of this version.
abbrev pub extent_of : (version : ℕ) → Found Outline → ExtentGiven
extent_of v (refusal n) = no_extent n
extent_of v (part o) =
    let points = outline_points v o in
    cond (any_na_n points) (no_extent not_a_number) (record { answer = answer 0 0 0 0; extent = box_of points })

-- The outline of a path, and of a text along a path.
abbrev pub outline_in : Leaf → Option Outline
outline_in (path p) = some p.outline
outline_in (text t) = none
outline_in (bitmap b) = none
outline_in (text_path x) = some x.outline

-- What is answered of the object with this row number.
abbrev pub extent_asked : ℕ → Drawing → ExtentGiven
extent_asked row d = extent_of d.version (part_of (leaf_part outline_in) row d)
