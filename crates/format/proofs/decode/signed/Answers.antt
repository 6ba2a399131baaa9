-- `format::decode::signed` meets its contract. Of a word in the upper half, minus one less the distance to the top is the number that two's complement reads. Assumes nothing.
use mathlib.Core.Path.{◌≡◌, refl, ap, ◌∙◌, subst⁻¹}
use Prim.Native.Nat.{ℕ, zero, suc, ◌-◌, ◌≤◌, ◌<◌}
use native.Mathlib.Nat.{zero-add}
use native.Mathlib.Omega.{arith}
use borrow.Author.Tests.{le-ltb}
use lib.IntN.{pos, negsuc, ◌-ℤ◌}
use mir.Facts.{to_z_pos, to_z-of_z, sfits_to_z}
use mir.Syntax.{w32}
use mir.Val.{to_z, of_z, SFits}
use Rattle.format.proofs.decode.signed.Goals as goal

less : (k : ℕ) → negsuc 0 -ℤ pos k ≡ negsuc k
less zero = refl
less (suc k) = ap (λ (n : ℕ). negsuc (suc n)) (zero-add k)

upper : (word : ℕ) → 2147483648 ≤ word → negsuc 0 -ℤ to_z w32 (4294967295 - word) ≡ to_z w32 word
upper word h =
    let small : 4294967295 - word < 2147483648 = omega arith in
    let same : 4294967295 - word ≡ 4294967296 - suc word = omega arith in
    rw (to_z_pos w32 small, less (4294967295 - word), le-ltb word 2147483648 h) (ap negsuc same)

pub returns-else-word-lt2147483648 : goal.returns-else-word-lt2147483648
returns-else-word-lt2147483648 c = ap (λ z. to_z w32 (of_z w32 z)) (upper c.args.word (omega arith)) ∙ to_z-of_z (sfits_to_z c.ranges.word)

pub overflow_sub-result-else-word-lt2147483648 : goal.overflow_sub-result-else-word-lt2147483648
overflow_sub-result-else-word-lt2147483648 c = subst⁻¹ (SFits w32) (upper c.args.word (omega arith)) (sfits_to_z c.ranges.word)
