-- Whether a run is there, whatever is picked of its bytes and its words.
use Rattle.std.specs.Prelude.{◌≡◌, refl, Bool, true, false, ℕ, List, ◌+◌, ◌*◌, ◌/◌, ◌<◌, ◌≤◌, length}
use Rattle.std.proofs.Common.{arith, subst}
use Rattle.ways.specs.Way.{Units, Way, width_of, source_units}
use Rattle.ways.specs.Picks.{Picks, picked}
use Rattle.ways.specs.Steps.{Fits}

pub picked_within : {U : Units} → Picks U → (bytes words : ℕ) → U.pick bytes words ≤ bytes + words
picked_within picks bytes words = picked picks (λ pick. pick bytes words ≤ bytes + words) (omega arith) (omega arith)

picked_run : {U : Units} → Picks U → (count size : ℕ) → U.pick (count * size) (count * ((size + 3) / 4)) ≡ count * width_of U size
picked_run picks count size = picked picks (λ pick. pick (count * size) (count * ((size + 3) / 4)) ≡ count * pick size ((size + 3) / 4)) refl refl

-- Chars take one word each.
picked_chars : {U : Units} → Picks U → (count : ℕ) → U.pick (count * 2) count ≡ count * width_of U 2
picked_chars picks count = picked picks (λ pick. pick (count * 2) count ≡ count * pick 2 ((2 + 3) / 4)) refl (omega arith)

module _ {W : Way} (picks : Picks W.source) {us : List ℕ} {at : ℕ} {r : Bool} (count size : ℕ) where
  pub run_inside : Fits W (count * size) (count * ((size + 3) / 4)) us at r → r ≡ true → at + count * source_units W size ≤ length us
  run_inside fits is = subst (λ n. at + n ≤ length us) (picked_run picks count size) (fits.yes is)

  pub run_outside : Fits W (count * size) (count * ((size + 3) / 4)) us at r → r ≡ false → length us < at + count * source_units W size
  run_outside fits is = subst (λ n. length us < at + n) (picked_run picks count size) (fits.no is)

module _ {W : Way} (picks : Picks W.source) {us : List ℕ} {at : ℕ} {r : Bool} (count : ℕ) where
  pub chars_inside : Fits W (count * 2) count us at r → r ≡ true → at + count * source_units W 2 ≤ length us
  chars_inside fits is = subst (λ n. at + n ≤ length us) (picked_chars picks count) (fits.yes is)

  pub chars_outside : Fits W (count * 2) count us at r → r ≡ false → length us < at + count * source_units W 2
  chars_outside fits is = subst (λ n. length us < at + n) (picked_chars picks count) (fits.no is)
