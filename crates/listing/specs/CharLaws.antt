-- A label compared with chars in the bodies, one by one.
use Rattle.std.specs.Prelude.{◌≡◌, Bool, true, ◌&&◌, ℕ, suc, ◌+◌, ◌-◌, ◌<◌, ◌≤◌, List, ◌∷◌, eqb, length, take, drop, get_or}
use Rattle.std.proofs.Common.{ap, ap₂, ◌∙◌, arith, drop_of_length-le, drop-cons}
use Rattle.drawing.specs.String.{equal}

module _ (ws label : List ℕ) (from : ℕ) where
  -- What is left of the comparison.
  abbrev pub left : ℕ → Bool
  left i = equal (take (length label - i) (drop (from + i) ws)) (drop i label)

  pub all-chars : left 0 ≡ equal (take (length label) (drop from ws)) label
  all-chars =
      let all : length label - 0 ≡ length label = omega arith in
      let here : from + 0 ≡ from = omega arith in
      ap₂ (λ n k. equal (take n (drop k ws)) label) all here

  pub one_char : (i : ℕ) → i < length label → from + length label ≤ length ws → left i ≡ (eqb (get_or ws (from + i) 0) (get_or label i 0) && left (i + 1))
  one_char i more inside =
      let some : length label - i ≡ suc (length label - (i + 1)) = omega arith in
      let next : suc i ≡ i + 1 = omega arith in
      let behind : suc (from + i) ≡ from + (i + 1) = omega arith in
      ap₂ (λ n l. equal (take n l) (drop i label)) some (drop-cons ws (from + i) 0 (omega arith))
      ∙ ap (λ l. equal (get_or ws (from + i) 0 ∷ take (length label - (i + 1)) (drop (suc (from + i)) ws)) l) (drop-cons label i 0 more)
      ∙ ap₂ (λ n k. eqb (get_or ws (from + i) 0) (get_or label i 0) && equal (take (length label - (i + 1)) (drop n ws)) (drop k label)) behind next

  pub no_char : (i : ℕ) → length label ≤ i → left i ≡ true
  no_char i done =
      let none : length label - i ≡ 0 = omega arith in
      ap₂ (λ n l. equal (take n (drop (from + i) ws)) l) none (drop_of_length-le label done)
