-- What reading a field from words rests on: it is one word or two.
use Rattle.std.specs.Prelude.{◌≡◌, ℕ, ◌+◌, ◌*◌, ◌/◌, ◌^◌, ◌<◌, ◌≤◌, List, [], ◌∷◌, length, take, drop, get_or}
use Rattle.std.proofs.Common.{sym, ap, ap₂, ◌∙◌, arith}
use Rattle.format.specs.Digits.{number}
use Rattle.format.specs.LeafLaws.{field-one, field-add}

module _ (s : List ℕ) (at wide : ℕ) (inside : at + (wide + 3) / 4 ≤ length s) where
  pub one_word : 0 < wide → wide ≤ 4 → get_or s at 0 ≡ number (2 ^ 32) (take ((wide + 3) / 4) (drop at s))
  one_word least most =
      let one : (wide + 3) / 4 ≡ 1 = omega arith in
      let here : at + 1 ≤ length s = omega arith in
      sym (ap (λ n. number (2 ^ 32) (take n (drop at s))) one ∙ field-one (2 ^ 32) s at here)

  pub two-words : (v : ℕ) → 4 < wide → wide ≤ 8 → v ≡ number (2 ^ 32) (get_or s at 0 ∷ get_or s (at + 1) 0 ∷ []) → v ≡ number (2 ^ 32) (take ((wide + 3) / 4) (drop at s))
  two-words v least most is =
      let two : (wide + 3) / 4 ≡ 1 + 1 = omega arith in
      let here : at + (1 + 1) ≤ length s = omega arith in
      let first = field-one (2 ^ 32) s at (omega arith) in
      let second = field-one (2 ^ 32) s (at + 1) (omega arith) in
      let parts = field-add (2 ^ 32) s at 1 1 here in
      let sum : number (2 ^ 32) (take (1 + 1) (drop at s)) ≡ get_or s at 0 * (2 ^ 32) ^ 1 + get_or s (at + 1) 0 = parts ∙ ap₂ (λ a b. a * (2 ^ 32) ^ 1 + b) first second in
      is ∙ omega arith ∙ sym (ap (λ n. number (2 ^ 32) (take n (drop at s))) two ∙ sum)
