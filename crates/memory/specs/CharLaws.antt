-- Words taken together, bit by bit: they are all chars exactly if what they come to is one.
use Rattle.std.specs.Prelude.{◌≡◌, refl, Bool, true, false, ℕ, ◌+◌, ◌%◌, ◌^◌, ◌<◌, ◌≤◌, List, eqb, ltb, get_or}
use Rattle.std.proofs.Common.{sym, ap₂, ◌∙◌, arith, below_more, eqb-true, ltb-true, ltb-false}
use Rattle.std.specs.Int.Bits.{bit_or, or_add_and}
use Rattle.std.proofs.lemmas.Nat.{or_lt, or_comm, or_mod, and_le_r}
use Rattle.std.proofs.lemmas.Bool.{eqb-false}
use Rattle.memory.specs.Runs.{AllChars}

-- The first words of a run, taken together.
pub record Together (words : List ℕ) (from count all : ℕ) : Type 0 where
  pub each : (i : ℕ) → i < count → get_or words (from + i) 0 ≤ all
  pub some : 65536 ≤ all → (i : ℕ) × (i < count) × (65536 ≤ get_or words (from + i) 0)

or_left : (a b : ℕ) → a ≤ bit_or a b
or_left a b = omega (arith, or_add_and a b, and_le_r a b)

or_right : (a b : ℕ) → b ≤ bit_or a b
or_right a b = rw or_comm (or_left b a)

module _ (words : List ℕ) (from : ℕ) where
  pub together_none : Together words from 0 0
  together_none = record { each = λ i less. absurd (omega arith); some = λ large. absurd (omega arith) }

  -- One word more.
  pub together_more : (count all : ℕ) → Together words from count all → Together words from (count + 1) (bit_or all (get_or words (from + count) 0))
  together_more count all so =
      let word = get_or words (from + count) 0 in
      let more = or_left all word in
      record {
        each = below_more (λ i. get_or words (from + i) 0 ≤ bit_or all word) count (λ i less. omega (arith, so.each i less)) (or_right all word);
        some = by (ltb word 65536) refl (ltb all 65536) refl;
      }
    where
      by : (a : Bool) → ltb (get_or words (from + count) 0) 65536 ≡ a → (b : Bool) → ltb all 65536 ≡ b → 65536 ≤ bit_or all (get_or words (from + count) 0)
          → (i : ℕ) × (i < count + 1) × (65536 ≤ get_or words (from + i) 0)
      by false e b f large = (count, omega arith, ltb-false (get_or words (from + count) 0) 65536 e)
      by true e true f large =
          let small : bit_or all (get_or words (from + count) 0) < 2 ^ 16 = or_lt 16 all (get_or words (from + count) 0) (ltb-true all 65536 f) (ltb-true (get_or words (from + count) 0) 65536 e) in
          absurd (omega arith)
      by true e false f large = let h = so.some (ltb-false all 65536 f) in (h.0, omega (arith, h.1), h.2)

  -- What the test of all says.
  pub together_chars : (count all : ℕ) → Together words from count all → AllChars words from count (ltb all 65536)
  together_chars count all so =
      record {
        all = λ e i less. omega (arith, so.each i less, ltb-true all 65536 e);
        not-all = λ e. so.some (ltb-false all 65536 e);
      }

-- ---- with their bytes exchanged

-- A word with its bytes exchanged: its lower half is 0 exactly if the word is a char.
pub record Exchanged (word r : ℕ) : Type 0 where
  pub char : r % 65536 ≡ 0 → word < 65536
  pub other : (r % 65536 ≡ 0 → ⊥) → 65536 ≤ word

-- The first words of a run, exchanged and taken together.
pub record Mixed (words : List ℕ) (from count all : ℕ) : Type 0 where
  pub each : all % 65536 ≡ 0 → (i : ℕ) → i < count → get_or words (from + i) 0 < 65536
  pub some : (all % 65536 ≡ 0 → ⊥) → (i : ℕ) × (i < count) × (65536 ≤ get_or words (from + i) 0)

module _ (words : List ℕ) (from : ℕ) where
  pub mixed_none : Mixed words from 0 0
  mixed_none = record { each = λ zero_is i less. absurd (omega arith); some = λ other. absurd (other refl) }

  -- One word more.
  pub mixed_more : (count all : ℕ) {r : ℕ} → Exchanged (get_or words (from + count) 0) r → Mixed words from count all → Mixed words from (count + 1) (bit_or all r)
  mixed_more count all {r} word so =
      record {
        each = λ zero_is.
            let both : bit_or (all % 65536) (r % 65536) ≡ 0 = sym (or_mod all r 16) ∙ zero_is in
            below_more (λ i. get_or words (from + i) 0 < 65536) count
            (so.each (omega (arith, or_left (all % 65536) (r % 65536))))
            (word.char (omega (arith, or_right (all % 65536) (r % 65536))));
        some = λ other. by other (eqb (all % 65536) 0) refl (eqb (r % 65536) 0) refl;
      }
    where
      by : (bit_or all r % 65536 ≡ 0 → ⊥) → (a : Bool) → eqb (all % 65536) 0 ≡ a → (b : Bool) → eqb (r % 65536) 0 ≡ b → (i : ℕ) × (i < count + 1) × (65536 ≤ get_or words (from + i) 0)
      by other false e b f = let h = so.some (eqb-false (all % 65536) 0 e) in (h.0, omega (arith, h.1), h.2)
      by other true e false f = (count, omega arith, word.other (eqb-false (r % 65536) 0 f))
      by other true e true f = absurd (other (or_mod all r 16 ∙ ap₂ bit_or (eqb-true (all % 65536) 0 e) (eqb-true (r % 65536) 0 f)))

  -- What the test of all says.
  pub mixed_chars : (count all : ℕ) → Mixed words from count all → AllChars words from count (eqb (all % 65536) 0)
  mixed_chars count all so =
      record {
        all = λ e. so.each (eqb-true (all % 65536) 0 e);
        not-all = λ e. so.some (eqb-false (all % 65536) 0 e);
      }
