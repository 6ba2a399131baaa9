-- Runs of like fields put into memory: what the code's answers say, and what it asks for.
use Rattle.std.specs.Prelude.{◌≡◌, Bool, true, false, ℕ, ◌+◌, ◌*◌, ◌<◌, ◌≤◌, List, length, get_or}

-- So many of some fields fit: no more than there are, they do fit, and another one would not.
pub record Fitting (space to far count fit : ℕ) : Type 0 where
  pub most : fit ≤ count
  pub room : 0 < fit → to + fit * far ≤ space
  pub full : fit < count → space < to + fit * far + far

-- What a run needs: its units in the source, and room in the target.
pub record Room (us : List ℕ) (at w u count to room : ℕ) : Type 0 where
  pub inside : at + count * w ≤ length us
  pub fits : 0 < count → to + count * u ≤ room

-- What a test that all words are chars says.
pub record AllChars (words : List ℕ) (from count : ℕ) (r : Bool) : Type 0 where
  pub all : r ≡ true → (i : ℕ) → i < count → get_or words (from + i) 0 < 65536
  pub not-all : r ≡ false → (i : ℕ) × (i < count) × (65536 ≤ get_or words (from + i) 0)

-- Where the fields are chars, the words are.
abbrev pub SmallWords : ℕ → List ℕ → (at count : ℕ) → Type 0
SmallWords size words at count = size ≡ 2 → (i : ℕ) → i < count → get_or words (at + i) 0 < 65536

-- Eight words are chars.
pub record EightChars (words : List ℕ) (at : ℕ) : Type 0 where
  pub small : (i : ℕ) → i < 8 → get_or words (at + i) 0 < 65536
