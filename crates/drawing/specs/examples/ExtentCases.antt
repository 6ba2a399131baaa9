-- Boxes around outlines (R-5): zeros of both signs, infinities, control points, starts of 1.2 and of 1.3, NaNs. File15 has the answers of the call.
use Rattle.std.specs.Prelude.{◌≡◌, refl, true, false, ℕ, List, [], ◌∷◌, map, pos, Float}
use Prim.Native.Char.{code}
use Rattle.std.specs.Float.{inf, fin}
use Rattle.std.specs.Float.Ieee.{lt, of_bits, nan_bits}
use Rattle.drawing.specs.Path.{Segment, curve, line, move, Outline}
use Rattle.drawing.specs.Answers.{answer}
use Rattle.drawing.specs.Questions.{part}
use Rattle.drawing.specs.Extent.{ExtentGiven, no_extent, extent_of}
use Rattle.drawing.specs.examples.Bytes.{at}

abbrev from : ℕ → ℕ → List Segment → Outline
from x y ss = record { open_or_closed = code "O"; start = at x y; segments = ss }

-- the bits of doubles
abbrev plus_zero : ℕ
plus_zero = 0

abbrev minus_zero : ℕ
minus_zero = 0x8000_0000_0000_0000

abbrev one : ℕ
one = 0x3FF0_0000_0000_0000

abbrev two : ℕ
two = 0x4000_0000_0000_0000

abbrev three : ℕ
three = 0x4008_0000_0000_0000

abbrev minus_one : ℕ
minus_one = 0xBFF0_0000_0000_0000

abbrev infinity : ℕ
infinity = 0x7FF0_0000_0000_0000

abbrev minus_infinity : ℕ
minus_infinity = 0xFFF0_0000_0000_0000

abbrev quiet_na_n : ℕ
quiet_na_n = 0x7FF8_0000_0000_0000

abbrev signalling_na_n : ℕ
signalling_na_n = 0xFFF0_0000_0000_0001

abbrev box : Float → Float → Float → Float → ExtentGiven
box left bottom right top = record { answer = answer 0 0 0 0; extent = record { left = left; bottom = bottom; right = right; top = top } }

abbrev of : ℕ → Outline → ExtentGiven
of v o = extent_of v (part o)

-- Of zeros of both signs the first is kept, on every side.
zeros : (of 4 (from plus_zero minus_zero (line (at 0 0) (at minus_zero plus_zero) ∷ [])) ≡ box (fin false 0 (pos 0)) (fin true 0 (pos 0)) (fin false 0 (pos 0)) (fin true 0 (pos 0)))
    × (of 4 (from minus_zero plus_zero (line (at 0 0) (at plus_zero minus_zero) ∷ [])) ≡ box (fin true 0 (pos 0)) (fin false 0 (pos 0)) (fin true 0 (pos 0)) (fin false 0 (pos 0)))
unfolding lt of_bits nan_bits
zeros = (refl, refl)

infinities : of 3 (from infinity one (move (at 0 0) (at two minus_infinity) ∷ [])) ≡ box (fin false 1 (pos 1)) (inf true) (inf false) (fin false 1 (pos 0))
unfolding lt of_bits nan_bits
infinities = refl

-- A control point counts as any other: here the first has the least x and y, the second the greatest.
controls : of 5 (from one one (curve (at 0 0) (at minus_one minus_one) (at three two) (at one one) ∷ [])) ≡ box (fin true 1 (pos 0)) (fin true 1 (pos 0)) (fin false 3 (pos 0)) (fin false 1 (pos 1))
unfolding lt of_bits nan_bits
controls = refl

-- Below 1.3 the start points are the segments' own; from 1.3 on only the outline's counts.
starts : (of 2 (from infinity infinity (line (at one two) (at three one) ∷ line (at minus_one one) (at two two) ∷ [])) ≡ box (fin true 1 (pos 0)) (fin false 1 (pos 0)) (fin false 3 (pos 0)) (fin false 1 (pos 1)))
    × (of 3 (from one two (line (at infinity infinity) (at three one) ∷ [])) ≡ box (fin false 1 (pos 0)) (fin false 1 (pos 0)) (fin false 3 (pos 0)) (fin false 1 (pos 1)))
unfolding lt of_bits nan_bits
starts = (refl, refl)

-- A NaN in any coordinate, of a start, a control point or an end, quiet or signalling.
nans : map (of 3)
    (from quiet_na_n one (line (at 0 0) (at one one) ∷ [])
    ∷ from one signalling_na_n (line (at 0 0) (at one one) ∷ [])
    ∷ from one one (line (at 0 0) (at one quiet_na_n) ∷ [])
    ∷ from one one (line (at 0 0) (at one one) ∷ curve (at 0 0) (at one one) (at signalling_na_n one) (at one one) ∷ [])
    ∷ [])
    ≡ no_extent 20 ∷ no_extent 20 ∷ no_extent 20 ∷ no_extent 20 ∷ []
unfolding lt of_bits nan_bits
nans = refl

-- A start that is no field is no point: below 1.3 the outline's, from 1.3 on a segment's.
no_fields : (of 0 (from quiet_na_n quiet_na_n (move (at one one) (at one one) ∷ [])) ≡ box (fin false 1 (pos 0)) (fin false 1 (pos 0)) (fin false 1 (pos 0)) (fin false 1 (pos 0)))
    × (of 2 (from one one (move (at quiet_na_n one) (at one one) ∷ [])) ≡ no_extent 20)
    × (of 3 (from one one (move (at quiet_na_n one) (at one one) ∷ [])) ≡ box (fin false 1 (pos 0)) (fin false 1 (pos 0)) (fin false 1 (pos 0)) (fin false 1 (pos 0)))
unfolding lt of_bits nan_bits
no_fields = (refl, refl, refl)
