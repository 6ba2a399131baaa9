-- Runs of numbers, written again in another base.
use Rattle.std.specs.Prelude.{ℕ, zero, suc, ◌*◌, ◌≡◌, List, [], ◌++◌, length, take, drop}
use Rattle.std.proofs.Common.{arith, length-append}
use Rattle.format.specs.Digits.{number, digits}
use Rattle.format.specs.DigitsLaws.{length_digits}

-- n numbers of w digits each, written again with u digits each in another base.
abbrev pub recoded : (base w other u : ℕ) → ℕ → List ℕ → List ℕ
recoded base w other u zero us = []
recoded base w other u (suc n) us = digits other u (number base (take w us)) ++ recoded base w other u n (drop w us)

pub length-recoded : (base w other u n : ℕ) (us : List ℕ) → length (recoded base w other u n us) ≡ n * u
length-recoded base w other u zero us = omega arith
length-recoded base w other u (suc n) us = rw (length-append, length_digits, length-recoded base w other u n (drop w us)) (omega arith)
