-- Ranges of floats, said by the library's own account of IEEE 754 (lib.Ieee). -0 is 0, and a NaN is in no range.
use Rattle.std.specs.Prelude.{ℕ, Bool, ◌&&◌, pos}
use Rattle.std.specs.Float.{Format}
use Rattle.std.specs.Float.Ieee.{of_bits, of_int, le, lt}

-- The float with this bit pattern is from 0 up to n.
unfoldable pub from_zero_to : Format → ℕ → ℕ → Bool
from_zero_to f n bits = let x = of_bits f bits in le (of_int f (pos 0)) x && le x (of_int f (pos n))

-- The float with this bit pattern is from 0 up to but not n.
unfoldable pub from_zero_below : Format → ℕ → ℕ → Bool
from_zero_below f n bits = let x = of_bits f bits in le (of_int f (pos 0)) x && lt x (of_int f (pos n))
