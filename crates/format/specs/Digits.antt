-- Numbers written as digits in a base, the highest digit first (big-endian). Bytes are digits in base 256, the table's words digits in base 2^32.
use Rattle.std.specs.Prelude.{ℕ, zero, suc, ◌+◌, ◌*◌, ◌/◌, ◌%◌, ◌^◌, ◌<◌, List, [], ◌∷◌, ◌++◌, length}

-- Every digit is below the base.
abbrev pub Below : ℕ → List ℕ → Type 0
Below base [] = Unit {0}
Below base (d ∷ ds) = (d < base) × Below base ds

-- The number that the digits write.
abbrev pub number : ℕ → List ℕ → ℕ
number base [] = 0
number base (d ∷ ds) = d * base ^ length ds + number base ds

-- The last n digits of a number.
abbrev pub digits : ℕ → ℕ → ℕ → List ℕ
digits base zero v = []
digits base (suc n) v = v / base ^ n % base ∷ digits base n v

-- Numbers one behind the other, with so many digits each.
abbrev pub all_digits : (base n : ℕ) → List ℕ → List ℕ
all_digits base n [] = []
all_digits base n (v ∷ vs) = digits base n v ++ all_digits base n vs
