-- The laws of numbers that lie in bytes: each by its place; and what is packed is unpacked again, and what is unpacked packed.
use Rattle.std.specs.Prelude.{◌≡◌, refl, ℕ, zero, suc, ◌+◌, ◌*◌, ◌/◌, ◌^◌, ◌<◌, ◌≤◌, drop, get_or}
use Rattle.std.proofs.Common.{sym, ap₂, subst, ◌∙◌, arith, length-append, length-drop, take-add, drop-drop, take_at, drop_at, length-take-le}
use Rattle.std.proofs.Math.Path.{ap}
use Rattle.std.proofs.Math.Nat as Nat
use mathlib.Core.List.{List, [], ◌∷◌, ◌++◌, append_assoc, append-nil}
use Rattle.std.proofs.Math.ListN.{length, take}
use Rattle.std.proofs.Math.Seq.{take-length}
use Rattle.format.specs.Digits.{Below, number, digits, all_digits}
use Rattle.format.specs.DigitsLaws.{length_digits, number_digits, digits_number}
use Rattle.format.specs.LeafLaws.{below_take, below_drop, field_below}
use Rattle.format.specs.RunLaws.{values_at, value_at_lem}
use Rattle.format.specs.Packed.{unpacked}

pub length-values : (base w : ℕ) (us : List ℕ) (n at : ℕ) → length (values_at base w us n at) ≡ n
length-values base w us zero at = refl
length-values base w us (suc n) at = ap suc (length-values base w us n (at + w))

pub length-all-digits : (base n : ℕ) (vs : List ℕ) → length (all_digits base n vs) ≡ length vs * n
length-all-digits base n [] = omega arith
length-all-digits base n (v ∷ vs) = rw (length-append, length_digits base n v, length-all-digits base n vs) (omega arith)

pub all-digits-append : (base n : ℕ) (vs ws : List ℕ) → all_digits base n (vs ++ ws) ≡ all_digits base n vs ++ all_digits base n ws
all-digits-append base n [] ws = refl
all-digits-append base n (v ∷ vs) ws =
    ap (λ l. digits base n v ++ l) (all-digits-append base n vs ws) ∙ sym (append_assoc (digits base n v) (all_digits base n vs) (all_digits base n ws))

values_below : (w : ℕ) (us : List ℕ) (n at : ℕ) → Below 256 us → at + n * w ≤ length us → Below (256 ^ w) (values_at 256 w us n at)
values_below w us zero at below inside = tt
values_below w us (suc n) at below inside = (field_below 256 us at w (omega arith) below, values_below w us n (at + w) below (omega arith))

-- ---- each number by its place

module _ (w : ℕ) (us : List ℕ) where
  pub length-unpacked : length (unpacked w us) ≡ length us / w
  unfolding unpacked
  length-unpacked = length-values 256 w us (length us / w) 0

  whole-inside : length us / w * w ≤ length us
  whole-inside = Nat.div-mul-le_self (length us) w

  pub unpacked_below : Below 256 us → Below (256 ^ w) (unpacked w us)
  unfolding unpacked
  unpacked_below below = values_below w us (length us / w) 0 below (omega (arith, whole-inside))

  pub unpacked-at : (i : ℕ) → i < length us / w → get_or (unpacked w us) i 0 ≡ number 256 (take w (drop (w * i) us))
  unfolding unpacked
  unpacked-at i less =
      let place : 0 + i * w ≡ w * i = Nat.zero-add (i * w) ∙ Nat.mul_comm i w in
      value_at_lem 256 w us (length us / w) 0 i less ∙ ap (λ a. number 256 (take w (drop a us))) place

-- ---- packed again

module _ (w : ℕ) (us : List ℕ) (below : Below 256 us) where
  pub packed-values : (n at : ℕ) → at + n * w ≤ length us → all_digits 256 w (values_at 256 w us n at) ≡ take (n * w) (drop at us)
  packed-values zero at inside = ap (λ k. take k (drop at us)) (sym (Nat.zero-mul w))
  packed-values (suc n) at inside =
      let field = take w (drop at us) in
      let long : length field ≡ w = length-take-le w (drop at us) (rw length-drop (omega arith)) in
      let sum : suc n * w ≡ w + n * w = omega arith in
      let this : digits 256 w (number 256 field) ≡ field = rw long at (digits_number 256 field (omega arith) (below_take 256 w (drop at us) (below_drop 256 at us below))) in
      ap₂ (λ x y. x ++ y) this (packed-values n (at + w) (omega arith) ∙ ap (take (n * w)) (sym (drop-drop w at us)))
      ∙ sym (ap (λ k. take k (drop at us)) sum ∙ take-add w (n * w) (drop at us))

-- ---- unpacked again

module _ (w : ℕ) (rest : List ℕ) where
  -- Behind some bytes.
  pub values-packed : (vs before : List ℕ) → Below (256 ^ w) vs → values_at 256 w (before ++ (all_digits 256 w vs ++ rest)) (length vs) (length before) ≡ vs
  values-packed [] before small = refl
  values-packed (v ∷ vs) before small =
      let field = digits 256 w v in
      let behind = all_digits 256 w vs ++ rest in
      let long : length field ≡ w = length_digits 256 w v in
      let joined : before ++ ((field ++ all_digits 256 w vs) ++ rest) ≡ (before ++ field) ++ behind =
      ap (λ l. before ++ l) (append_assoc field (all_digits 256 w vs) rest) ∙ sym (append_assoc before field behind) in
      let this : take w (drop (length before) (before ++ ((field ++ all_digits 256 w vs) ++ rest))) ≡ field =
      ap (take w) (drop_at before ((field ++ all_digits 256 w vs) ++ rest) (length before) refl ∙ append_assoc field (all_digits 256 w vs) rest) ∙ take_at field behind w long in
      let next : length before + w ≡ length (before ++ field) = sym (length-append before field ∙ ap (λ k. length before + k) long) in
      ap₂ (λ x l. x ∷ l)
      (ap (number 256) this ∙ number_digits 256 w v (omega arith) small.0)
      (ap₂ (λ l k. values_at 256 w l (length vs) k) joined next ∙ values-packed vs (before ++ field) small.1)

-- ---- all of them, where the bytes hold nothing else

module _ (w : ℕ) (some : 0 < w) where
  pub unpacked-packed : (vs : List ℕ) → Below (256 ^ w) vs → unpacked w (all_digits 256 w vs) ≡ vs
  unfolding unpacked
  unpacked-packed vs small =
      let bytes = all_digits 256 w vs in
      let many : length bytes / w ≡ length vs = ap (λ n. n / w) (length-all-digits 256 w vs) ∙ Nat.mul-div_cancel (length vs) some in
      ap (λ n. values_at 256 w bytes n 0) many
      ∙ ap (λ l. values_at 256 w l (length vs) 0) (sym (append-nil bytes))
      ∙ values-packed w [] vs [] small

  pub packed-unpacked : (us : List ℕ) → Below 256 us → (n : ℕ) → length us ≡ n * w → all_digits 256 w (unpacked w us) ≡ us
  unfolding unpacked
  packed-unpacked us below n long =
      let many : length us / w ≡ n = ap (λ k. k / w) long ∙ Nat.mul-div_cancel n some in
      ap (λ k. all_digits 256 w (values_at 256 w us k 0)) many
      ∙ packed-values w us below n 0 (omega arith)
      ∙ ap (λ k. take k us) (sym long)
      ∙ take-length us
