-- What the code's tests of signed numbers say: a number that is not negative is compared as an unsigned one.
use Rattle.std.specs.Prelude.{◌≡◌, refl, true, false, ℕ, ◌+◌, ◌-◌, ◌<◌, ◌≤◌, suc, T, ℤ, pos, negsuc, nat_abs}
use Rattle.std.proofs.Common.{ap, true≢false, arith, ltb-true, lt-ltb, le-ltb, Fits, SFits, to_z}
use Rattle.std.specs.Int.Signed.{le_z, lt_z, non_neg}
use Rattle.std.proofs.Math.Facts.{Fits-nat_abs}
use Rattle.std.specs.Int.{w8, w32}

-- A byte below 128 is read as the word that it is.
pub byte_lower : (byte : ℕ) → byte < 128 → to_z w32 byte ≡ to_z w8 byte
byte_lower byte h =
    let low : byte < 2147483648 = omega arith in rw (lt-ltb byte 128 h, lt-ltb byte 2147483648 low)

-- One from 128 on is read as the word with its sign carried up.
pub byte_upper : (byte : ℕ) → 128 ≤ byte → byte < 256 → to_z w32 (byte + 4294967040) ≡ to_z w8 byte
byte_upper byte h b =
    let up : 2147483648 ≤ byte + 4294967040 = omega arith in
    let same : 4294967296 - suc (byte + 4294967040) ≡ 256 - suc byte = omega arith in
    rw (le-ltb byte 128 h, le-ltb (byte + 4294967040) 2147483648 up) (ap negsuc same)

pub negative : (z : ℤ) → lt_z z (pos 0) ≡ true → (least : ℕ) → le_z (pos least) z ≡ false
negative (pos n) e least = absurd (let h = ltb-true n 0 e in omega arith)
negative (negsuc n) e least = refl

pub natural : (z : ℤ) → lt_z z (pos 0) ≡ false → z ≡ pos (nat_abs z)
natural (pos n) e = refl
natural (negsuc n) e = absurd (true≢false e)

-- what a cast to an unsigned number asks
pub castable : (z : ℤ) → SFits w32 z → lt_z z (pos 0) ≡ false → T (non_neg z) × Fits w32 (nat_abs z)
castable (pos n) fits e = (tt, Fits-nat_abs {w = w32} {w' = w32} {z = pos n} tt fits)
castable (negsuc n) fits e = absurd (true≢false e)
