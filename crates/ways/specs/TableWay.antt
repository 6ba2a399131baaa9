-- The way from a table's words to a file's bytes, and which words are values. The words may be a run of them, or lie in bytes.
use Rattle.std.specs.Prelude.{◌≡◌, refl, true, ℕ, suc, ◌+◌, ◌*◌, ◌/◌, ◌^◌, ◌<◌, ◌≤◌, List, length, get_or}
use Rattle.std.proofs.Common.{inr, arith}
use Rattle.std.proofs.Math.Nat as Nat
use Rattle.format.specs.Digits.{Below}
use Rattle.format.specs.LeafLaws.{field_below, field-one}
use Rattle.memory.specs.Sizes.{is_run}
use Rattle.memory.specs.SizeLaws.{each-run}
use Rattle.memory.specs.Runs.{SmallWords}
use Rattle.ways.specs.Way.{Blind, Way, source_units, value_at}
use Rattle.ways.specs.CodecUnits.{file_bytes, table_words}
use Rattle.ways.specs.Runs.{AllSmall}

-- Everything that is wrong with a table is 16, at no place.
pub blind : Blind (λ n. 16) (λ at. 0)
blind = record { one_number = λ n n'. refl; one_place = λ at at'. refl }

abbrev pub table_way : Way
table_way =
    record {
      source = table_words;
      target = file_bytes;
      number = λ n. 16;
      place = λ at. 0;
      before = λ at. omega arith;
      some = omega arith;
      tells = inr blind;
    }

-- ---- which words are values

-- A char is a word.
pub char-at : (us : List ℕ) (at count i : ℕ) → at + count * source_units table_way 2 ≤ length us → i < count → value_at table_way 2 us (at + i * source_units table_way 2) ≡ get_or us (at + i) 0
char-at us at count i inside less =
    let one : at + i * 1 ≡ at + i = omega arith in
    rw (one, field-one (2 ^ 32) us (at + i) (omega arith))

-- Words of floats and doubles write all their values, and nothing else.
words_hold : (size : ℕ) → is_run size ≡ true → (size ≡ 2 → ⊥) → (2 ^ 32) ^ ((size + 3) / 4) ≡ 256 ^ size
words_hold size run long = each-run (λ n. (n ≡ 2 → ⊥) → (2 ^ 32) ^ ((n + 3) / 4) ≡ 256 ^ n) size run (λ h. absurd (h refl)) (λ h. refl) (λ h. refl) long

pub words_small : (size : ℕ) (us : List ℕ) (at count : ℕ) → is_run size ≡ true → (size ≡ 2 → ⊥) → Below (2 ^ 32) us → at + count * source_units table_way size ≤ length us → AllSmall table_way size us at count
words_small size us at count run long below inside i less =
    let w = source_units table_way size in
    let more : suc i * w ≤ count * w = Nat.mul-le-mul_right w less in
    rw (← words_hold size run long) (field_below (2 ^ 32) us (at + i * w) w (omega arith) below)

pub chars-small : (size : ℕ) (us : List ℕ) (at count : ℕ) → at + count * source_units table_way size ≤ length us → AllSmall table_way size us at count → SmallWords size us at count
chars-small size us at count inside all two i less =
    let there : at + count * source_units table_way 2 ≤ length us = rw two at inside in
    let small : value_at table_way 2 us (at + i * source_units table_way 2) < 256 ^ 2 = rw two at (all i less) in
    rw (← char-at us at count i there less) small

module _ (size : ℕ) (us : List ℕ) (at count : ℕ) (two : size ≡ 2) (inside : at + count * source_units table_way size ≤ length us) where
  pub chars-there : at + count * source_units table_way 2 ≤ length us
  chars-there = rw two at inside

  pub small-chars : ((i : ℕ) → i < count → get_or us (at + i) 0 < 65536) → AllSmall table_way size us at count
  small-chars small i less = rw (two, char-at us at count i chars-there less) (small i less)

  pub large_char : (i : ℕ) × (i < count) × (65536 ≤ get_or us (at + i) 0) → (i : ℕ) × (i < count) × (256 ^ size ≤ value_at table_way size us (at + i * source_units table_way size))
  large_char (i, less, large) = (i, less, rw (two, char-at us at count i chars-there less) large)
