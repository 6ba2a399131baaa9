-- Words that are read first and written together.
use Rattle.std.specs.Prelude.{◌≡◌, refl, ℕ, zero, suc, ◌+◌, ◌*◌, ◌≤◌, List, [], ◌∷◌, ◌++◌, length, take, drop, get_or}
use Rattle.std.proofs.Common.{sym, ap, ap₂, ◌∙◌, arith, length-append, drop-drop}
use Rattle.std.proofs.Math.Nat as Nat
use Rattle.format.specs.Digits.{number, digits, all_digits}
use Rattle.format.specs.PackedLaws.{length-all-digits, all-digits-append}
use Rattle.format.specs.LeafLaws.{field-one}
use Rattle.format.specs.Pass.{splice}
use Rattle.format.specs.SpliceLaws.{splice-behind}
use Rattle.format.specs.Recode.{recoded}

module _ (base n : ℕ) where
  -- Some are written, and then others right behind them.
  pub spelled-behind : (vs ws : List ℕ) (place : ℕ) (s : List ℕ) {next : ℕ} {t u : List ℕ} → next ≡ place + length vs * n → place + (length vs + length ws) * n ≤ length s
      → t ≡ splice place (all_digits base n vs) s → u ≡ splice next (all_digits base n ws) t → u ≡ splice place (all_digits base n (vs ++ ws)) s
  spelled-behind vs ws place s {next} behind room first second =
      let a = all_digits base n vs in
      let b = all_digits base n ws in
      let a-long : length a ≡ length vs * n = length-all-digits base n vs in
      let b-long : length b ≡ length ws * n = length-all-digits base n ws in
      let long : length (a ++ b) ≡ length a + length b = length-append a b in
      second
      ∙ ap₂ (λ i l. splice i b l) (behind ∙ ap (λ i. place + i) (sym a-long)) first
      ∙ splice-behind place a b s (omega arith)
      ∙ ap (λ l. splice place l s) (sym (all-digits-append base n vs ws))

-- The words of a run, from the i-th on.
abbrev words_at : List ℕ → (at i n : ℕ) → List ℕ
words_at us at i zero = []
words_at us at i (suc n) = get_or us (at + i) 0 ∷ words_at us at (i + 1) n

module _ (base other u : ℕ) (us : List ℕ) (at : ℕ) where
  recoded-words : (n i : ℕ) → at + i + n ≤ length us → recoded base 1 other u n (drop (at + i) us) ≡ all_digits other u (words_at us at i n)
  recoded-words zero i inside = refl
  recoded-words (suc n) i inside =
      let one : number base (take 1 (drop (at + i) us)) ≡ get_or us (at + i) 0 = field-one base us (at + i) (omega arith) in
      let next : at + i + 1 ≡ at + (i + 1) = omega arith in
      ap₂ (λ v l. digits other u v ++ recoded base 1 other u n l) one (drop-drop 1 (at + i) us ∙ ap (λ j. drop j us) next)
      ∙ ap (λ l. digits other u (get_or us (at + i) 0) ++ l) (recoded-words n (i + 1) (omega arith))

  -- The next eight words.
  pub eight_words : at + 8 ≤ length us
      → all_digits other u (get_or us at 0 ∷ get_or us (at + 1) 0 ∷ get_or us (at + 2) 0 ∷ get_or us (at + 3) 0 ∷ get_or us (at + 4) 0 ∷ get_or us (at + 5) 0 ∷ get_or us (at + 6) 0 ∷ get_or us (at + 7) 0 ∷ [])
      ≡ recoded base 1 other u 8 (drop at us)
  eight_words inside =
      let here : at + 0 ≡ at = Nat.add-zero at in
      sym (rw here at (recoded-words 8 0 (omega arith)))
