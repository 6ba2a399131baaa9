-- The laws of copying a sheet's words two at a time.
use Rattle.std.specs.Prelude.{◌≡◌, refl, ℕ, ◌+◌, ◌*◌, ◌/◌, ◌%◌, ◌^◌, ◌<◌, ◌≤◌, List, length, take, drop}
use Rattle.std.proofs.Common.{sym, ap, ap₂, ◌∙◌, arith, length-drop}
use Rattle.std.proofs.Math.Nat as Nat
use Rattle.format.specs.Digits.{Below, number}
use Rattle.format.specs.LeafLaws.{below_drop, field-add}
use Rattle.format.specs.Recode.{recoded}
use Rattle.format.specs.RunLaws.{recoded-halves}
use Rattle.sheets.specs.Copying.{exchanged}

-- Of its bytes, the highest first.
exchanged-bytes : (p q r s : ℕ) → p < 256 → q < 256 → r < 256 → s < 256 → exchanged (p * 16777216 + q * 65536 + r * 256 + s) ≡ s * 16777216 + r * 65536 + q * 256 + p
exchanged-bytes p q r s hp hq hr hs =
    ap₂ (λ a b. a + b)
    (ap₂ (λ a b. a + b) (ap₂ (λ a b. a * 16777216 + b * 65536) (omega arith) (omega arith)) (ap (λ a. a * 256) (omega arith)))
    (omega arith)

-- A word of two chars with their bytes exchanged.
exchanged-chars : (a b : ℕ) → a < 65536 → b < 65536 → exchanged (b * 65536 + a) ≡ (a % 256 * 256 + a / 256) * 65536 + (b % 256 * 256 + b / 256)
exchanged-chars a b small less =
    let bytes : b * 65536 + a ≡ b / 256 * 16777216 + b % 256 * 65536 + a / 256 * 256 + a % 256 = omega arith in
    ap exchanged bytes
    ∙ exchanged-bytes (b / 256) (b % 256) (a / 256) (a % 256) (omega arith) (Nat.mod-lt b (omega arith)) (omega arith) (Nat.mod-lt a (omega arith))
    ∙ omega arith

module _ (s : List ℕ) (at : ℕ) where
  pub word_exchanged : at + 4 ≤ length s → {a b : ℕ} → a < 65536 → b < 65536 → a % 256 * 256 + a / 256 ≡ number 256 (take 2 (drop at s)) → b % 256 * 256 + b / 256 ≡ number 256 (take 2 (drop (at + 2) s))
      → exchanged (b * 65536 + a) ≡ number 256 (take 4 (drop at s))
  word_exchanged inside {a} {b} small less first second =
      exchanged-chars a b small less ∙ ap₂ (λ x y. x * 65536 + y) first second ∙ sym (field-add 256 s at 2 2 inside)

  -- Two words are the halves of a double.
  pub pair_exchanged : at + 8 ≤ length s → (x : ℕ) → exchanged (x % 2 ^ 32) ≡ number 256 (take 4 (drop at s)) → exchanged (x / 2 ^ 32) ≡ number 256 (take 4 (drop (at + 4) s))
      → exchanged (x % 2 ^ 32) * 2 ^ 32 + exchanged (x / 2 ^ 32) ≡ number 256 (take 8 (drop at s))
  pair_exchanged inside x first second = ap₂ (λ a b. a * 2 ^ 32 + b) first second ∙ sym (field-add 256 s at 4 4 inside)

  -- Eight doubles are sixteen words.
  pub eight_doubles : at + 64 ≤ length s → Below 256 s → recoded 256 8 (2 ^ 32) 2 8 (drop at s) ≡ recoded 256 4 (2 ^ 32) 1 16 (drop at s)
  eight_doubles inside below =
      let there : 8 * (4 + 4) ≤ length (drop at s) = rw length-drop (omega arith) in
      recoded-halves 256 4 (2 ^ 32) 1 refl (omega arith) 8 (drop at s) (below_drop 256 at s below) there
