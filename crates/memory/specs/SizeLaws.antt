-- The laws of sizes: what holds of each, and how many words a field takes.
use Rattle.std.specs.Prelude.{◌≡◌, refl, Bool, true, false, ℕ, ◌+◌, ◌/◌, ◌^◌, ◌<◌, ◌≤◌, eqb}
use Rattle.std.proofs.Math.Nat as Nat
use Rattle.std.proofs.Common.{arith, ne_eqb, eqb-true}
use Rattle.std.proofs.lemmas.Bool.{eqb-false}
use Rattle.memory.specs.Sizes.{is_field, is_run, is_short}

-- ---- fields

-- A size that is none of the smaller ones is that of a double.
pub field_eight : (n : ℕ) → is_field n ≡ true → (n ≡ 1 → ⊥) → (n ≡ 2 → ⊥) → (n ≡ 4 → ⊥) → n ≡ 8
field_eight n e one two four = eqb-true n 8 (simp ne_eqb at e)

pub each-size : (P : ℕ → Type 0) (n : ℕ) → is_field n ≡ true → P 1 → P 2 → P 4 → P 8 → P n
each-size P n e one two four eight = by (eqb n 1) refl (eqb n 2) refl (eqb n 4) refl
  where
    by : (a : Bool) → eqb n 1 ≡ a → (b : Bool) → eqb n 2 ≡ b → (c : Bool) → eqb n 4 ≡ c → P n
    by true h b i c j = rw (eqb-true n 1 h) one
    by false h true i c j = rw (eqb-true n 2 i) two
    by false h false i true j = rw (eqb-true n 4 j) four
    by false h false i false j = rw (field_eight n e (eqb-false n 1 h) (eqb-false n 2 i) (eqb-false n 4 j)) eight

pub field-size : (n : ℕ) → is_field n ≡ true → (0 < n) × (n ≤ 8)
field-size n e = each-size (λ n. (0 < n) × (n ≤ 8)) n e (omega arith, omega arith) (omega arith, omega arith) (omega arith, omega arith) (omega arith, omega arith)

-- Up to four bytes take a word, and a double two.
pub one_word : (n : ℕ) → is_field n ≡ true → n ≤ 4 → 1 ≡ (n + 3) / 4
one_word n e h = let s = field-size n e in omega arith

pub two-words : (n : ℕ) → is_field n ≡ true → 4 < n → 2 ≡ (n + 3) / 4
two-words n e h = let s = field-size n e in omega arith

pub double-size : (n : ℕ) → is_field n ≡ true → 4 < n → n ≡ 8
double-size n e = each-size (λ n. 4 < n → n ≡ 8) n e (λ h. absurd (omega arith)) (λ h. absurd (omega arith)) (λ h. absurd (omega arith)) (λ h. refl)

pub small_value : (n v : ℕ) → n ≤ 4 → v < 256 ^ n → v < 2 ^ 32
small_value n v h small = let more : 256 ^ n ≤ 256 ^ 4 = Nat.pow-le-pow_right (omega arith) h in omega arith

-- ---- runs

pub run_eight : (n : ℕ) → is_run n ≡ true → (n ≡ 2 → ⊥) → (n ≡ 4 → ⊥) → n ≡ 8
run_eight n e two four = eqb-true n 8 (simp ne_eqb at e)

pub each-run : (P : ℕ → Type 0) (n : ℕ) → is_run n ≡ true → P 2 → P 4 → P 8 → P n
each-run P n e two four eight = by (eqb n 2) refl (eqb n 4) refl
  where
    by : (a : Bool) → eqb n 2 ≡ a → (b : Bool) → eqb n 4 ≡ b → P n
    by true h b i = rw (eqb-true n 2 h) two
    by false h true i = rw (eqb-true n 4 i) four
    by false h false i = rw (run_eight n e (eqb-false n 2 h) (eqb-false n 4 i)) eight

pub run-size : (n : ℕ) → is_run n ≡ true → (0 < n) × (n ≤ 8)
run-size n e = each-run (λ n. (0 < n) × (n ≤ 8)) n e (omega arith, omega arith) (omega arith, omega arith) (omega arith, omega arith)

pub run-two : (n : ℕ) → is_run n ≡ true → (n ≡ 8 → ⊥) → (n ≡ 4 → ⊥) → n ≡ 2
run-two n e = each-run (λ n. (n ≡ 8 → ⊥) → (n ≡ 4 → ⊥) → n ≡ 2) n e (λ eight four. refl) (λ eight four. absurd (four refl)) (λ eight four. absurd (eight refl))

pub run_short : (n : ℕ) → is_run n ≡ true → (n ≡ 8 → ⊥) → is_short n ≡ true
run_short n e other = each-run (λ n. (n ≡ 8 → ⊥) → is_short n ≡ true) n e (λ other. refl) (λ other. refl) (λ other. absurd (other refl)) other

each-short : (P : ℕ → Type 0) (n : ℕ) → is_short n ≡ true → P 2 → P 4 → P n
each-short P n e two four = by (eqb n 2) refl
  where
    by : (a : Bool) → eqb n 2 ≡ a → P n
    by true h = rw (eqb-true n 2 h) two
    by false h = rw (eqb-true n 4 (simp h at e)) four

pub short-four : (n : ℕ) → is_short n ≡ true → (n ≡ 2 → ⊥) → n ≡ 4
short-four n e = each-short (λ n. (n ≡ 2 → ⊥) → n ≡ 4) n e (λ other. absurd (other refl)) (λ other. refl)

-- One word each.
pub short_word : (n : ℕ) → is_short n ≡ true → (n + 3) / 4 ≡ 1
short_word n e = each-short (λ n. (n + 3) / 4 ≡ 1) n e refl refl
