-- Digits and numbers are inverse to one another, for any base and any count of digits.
use Rattle.std.specs.Prelude.{◌≡◌, refl, ℕ, zero, suc, ◌+◌, ◌*◌, ◌/◌, ◌%◌, ◌^◌, ◌<◌, List, [], ◌∷◌, length}
use Rattle.std.proofs.Common.{sym, ap, ◌∙◌, arith}
use Rattle.std.proofs.Math.Arith.{digits_lt, digits_div, mod-mul}
use Rattle.std.proofs.Math.Nat as Nat
use Rattle.format.specs.Digits.{Below, number, digits}

pub length_digits : (base n v : ℕ) → length (digits base n v) ≡ n
length_digits base zero v = refl
length_digits base (suc n) v = ap suc (length_digits base n v)

pub below_digits : (base n v : ℕ) → 0 < base → Below base (digits base n v)
below_digits base zero v h = tt
below_digits base (suc n) v h = (Nat.mod-lt (v / base ^ n) h, below_digits base n v h)

pub power_positive : (base n : ℕ) → 0 < base → 0 < base ^ n
power_positive base zero h = rw Nat.pow-zero (omega arith)
power_positive base (suc n) h = rw Nat.pow-suc (Nat.mul-pos (power_positive base n h) h)

-- The digits of a number write its last part.
pub number-digits-mod : (base n v : ℕ) → 0 < base → number base (digits base n v) ≡ v % base ^ n
number-digits-mod base zero v h = rw (Nat.pow-zero, Nat.mod-one)
number-digits-mod base (suc n) v h =
    rw (length_digits base n v, number-digits-mod base n v h, Nat.pow-succ' base n) (sym (mod-mul v h (power_positive base n h)))

pub number_digits : (base n v : ℕ) → 0 < base → v < base ^ n → number base (digits base n v) ≡ v
number_digits base n v h b = number-digits-mod base n v h ∙ Nat.mod-eq_of_lt b

pub number_below : (base : ℕ) (ds : List ℕ) → Below base ds → number base ds < base ^ length ds
number_below base [] b = rw Nat.pow-zero (omega arith)
number_below base (d ∷ ds) b = rw Nat.pow-succ' (digits_lt b.0 (number_below base ds b.1))

-- Digits above the last n do not count.
pub digits_above : (base n q v : ℕ) → 0 < base → digits base n (q * base ^ n + v) ≡ digits base n v
digits_above base zero q v h = refl
digits_above base (suc n) q v h =
    rw (Nat.pow-succ' base n, ← (Nat.mul_assoc q base (base ^ n)), digits_above base n (q * base) v h, Nat.mul-add-div_right (power_positive base n h) (q * base) v, Nat.mul-add-mod_self_right q base (v / base ^ n))

pub digits_number : (base : ℕ) (ds : List ℕ) → 0 < base → Below base ds → digits base (length ds) (number base ds) ≡ ds
digits_number base [] h b = refl
digits_number base (d ∷ ds) h b =
    rw (digits_div d (number_below base ds b.1), Nat.mod-eq_of_lt b.0, digits_above base (length ds) d (number base ds) h, digits_number base ds h b.1)
