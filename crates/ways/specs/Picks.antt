-- Units are those of a file or those of a table: what is so many bytes in a file and so many words in a table is one of the two numbers.
use Rattle.std.specs.Prelude.{◌≡◌, refl, ◌⊎◌, ℕ}
use Rattle.std.proofs.Common.{sym, subst, inl, inr}
use Rattle.ways.specs.Way.{Units}
use Rattle.ways.specs.CodecUnits.{file_bytes, table_words}

pub record Picks (U : Units) : Type 0 where
  pub either : (U.pick ≡ (λ bytes words. bytes)) ⊎ (U.pick ≡ (λ bytes words. words))

-- ---- laws

one-of : {pick : ℕ → ℕ → ℕ} (P : (ℕ → ℕ → ℕ) → Type 0) → (pick ≡ (λ bytes words. bytes)) ⊎ (pick ≡ (λ bytes words. words)) → P (λ bytes words. bytes) → P (λ bytes words. words) → P pick
one-of P (inl is) bytes words = subst P (sym is) bytes
one-of P (inr is) bytes words = subst P (sym is) words

-- What holds of the bytes and of the words holds of what is picked.
pub picked : {U : Units} → Picks U → (P : (ℕ → ℕ → ℕ) → Type 0) → P (λ bytes words. bytes) → P (λ bytes words. words) → P U.pick
picked picks P bytes words = one-of P picks.either bytes words

-- The units of a file and of a table.
pub bytes_picked : Picks file_bytes
bytes_picked = record { either = inl refl }

pub words_picked : Picks table_words
words_picked = record { either = inr refl }
