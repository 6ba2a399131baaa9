-- The flag, or the byte, that tells which settings there are has one of the values listed.
use Rattle.std.specs.Prelude.{◌≡◌, refl, true, ◌||◌, ℕ, zero, suc, ◌≤◌, ◌<◌, eqb}
use Rattle.std.proofs.Common.{arith}
use Rattle.format.specs.Kind.{Allowed}
use Rattle.drawing.specs.Fields.{flag, byte_in}
use Rattle.drawing.specs.FieldLaws.{byte_in_lem, flag_below}

two : (c : ℕ) → c < 2 → (eqb c 1 || eqb c 0) ≡ true
two zero h = refl
two (suc zero) h = refl
two (suc (suc n)) h = absurd (omega arith)

three : (c : ℕ) → c ≤ 2 → (eqb c 1 || (eqb c 2 || eqb c 0)) ≡ true
three zero h = refl
three (suc zero) h = refl
three (suc (suc zero)) h = refl
three (suc (suc (suc n))) h = absurd (omega arith)

pub one_of_two : (c : ℕ) → Allowed flag c → (eqb c 1 || eqb c 0) ≡ true
one_of_two c a = two c (flag_below c a)

pub one_of_three : (c : ℕ) → Allowed (byte_in 0 2) c → (eqb c 1 || (eqb c 2 || eqb c 0)) ≡ true
one_of_three c a = three c (byte_in_lem 0 2 c a).1
