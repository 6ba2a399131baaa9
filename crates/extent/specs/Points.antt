-- The points that stand in words, and the box around points, as the code finds it one point after the other.
use Rattle.std.specs.Prelude.{Bool, cond, ◌||◌, ℕ, zero, suc, ◌+◌, ◌*◌, ◌^◌, ◌≤◌, List, [], ◌∷◌, ◌++◌, length, get_or, eqb, Option, None, Some}
use Prim.Native.Char.{code}
use Rattle.std.specs.Float.{binary64}
use Rattle.std.specs.Float.Ieee.{nan_bits}
use Rattle.format.specs.Digits.{number}
use Rattle.drawing.specs.declared.Extent.{Extent}
use Rattle.drawing.specs.declared.ExtentAnswer.{ExtentAnswer}
use Rattle.drawing.specs.Numbers.{not_a_number}
use Rattle.drawing.specs.Path.{Point}
use Rattle.drawing.specs.Answers.{answer}
use Rattle.drawing.specs.Extent.{widened_by, box_of, any_na_n, no_extent}
use Rattle.drawing.specs.Computed.{extent_value}

-- ---- points

-- A coordinate: two words, the high half first.
abbrev pub bits_at : List ℕ → ℕ → ℕ
bits_at ws at = number (2 ^ 32) (get_or ws at 0 ∷ get_or ws (at + 1) 0 ∷ [])

abbrev pub point_at : List ℕ → ℕ → Point
point_at ws at = record { x = bits_at ws at; y = bits_at ws (at + 2) }

-- One of its coordinates is not a number.
abbrev pub nan_at : List ℕ → ℕ → Bool
nan_at ws at = nan_bits binary64 (bits_at ws at) || nan_bits binary64 (bits_at ws (at + 2))

-- So many points from here.
unfoldable pub points_at : List ℕ → (at n : ℕ) → List Point
points_at ws at zero = []
points_at ws at (suc n) = point_at ws at ∷ points_at ws (at + 4) n

-- ---- segments

-- How many points a segment of this letter has, with so many of its own before those of every version.
abbrev pub points_of : (letter own : ℕ) → ℕ
points_of letter own = own + cond (eqb letter (code "B")) 3 1

-- The place behind the segment that stands here.
abbrev pub next_at : List ℕ → (at own : ℕ) → ℕ
next_at ws at own = at + 1 + 4 * points_of (get_or ws at 0) own

-- The points of so many segments from here.
unfoldable pub segments_at : List ℕ → (at own n : ℕ) → List Point
unfolding points_at
segments_at ws at own zero = []
segments_at ws at own (suc n) = points_at ws (at + 1) (points_of (get_or ws at 0) own) ++ segments_at ws (next_at ws at own) own n

-- Where they end.
unfoldable pub segments_end : List ℕ → (at own n : ℕ) → ℕ
segments_end ws at own zero = at
segments_end ws at own (suc n) = segments_end ws (next_at ws at own) own n

pub record SegmentsInside (ws : List ℕ) (at own n : ℕ) : Type 0 where
  pub own_is : own ≤ 1
  pub inside : segments_end ws at own n ≤ length ws

-- ---- the box

-- The answer for a box that points widen.
unfoldable pub folded : Extent → List Point → ExtentAnswer
folded b ps = cond (any_na_n ps) (extent_value (no_extent not_a_number)) (record { number = 0; extent = widened_by b ps })

-- The answer for all points of an outline.
unfoldable pub boxed : List Point → ExtentAnswer
boxed ps = extent_value (cond (any_na_n ps) (no_extent not_a_number) (record { answer = answer 0 0 0 0; extent = box_of ps }))

-- The answer with a box, or with none since some coordinate is not a number.
abbrev pub box_answer : Option Extent → ExtentAnswer
box_answer None = extent_value (no_extent not_a_number)
box_answer (Some b) = record { number = 0; extent = b }
