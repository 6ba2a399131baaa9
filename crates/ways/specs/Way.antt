-- The ways of a pass: from one codec's units into another's.
use Rattle.std.specs.Prelude.{◌≡◌, ◌⊎◌, ℕ, ◌+◌, ◌/◌, ◌^◌, ◌<◌, ◌≤◌, List, take, drop, false}
use Rattle.format.specs.Digits.{number}
use Rattle.format.specs.Kind.{Shape, is_flag, size, values}
use Rattle.format.specs.FixedCodec.{Fixed}
use Rattle.format.specs.FixedReading.{standing}
use Rattle.format.specs.Pass.{Route, stopped}

-- How fields lie in units.
pub record Units : Type 0 where
  pub base : ℕ
  -- what is so many bytes in a file, and so many words in a table
  pub pick : (bytes words : ℕ) → ℕ
  -- the value that a number stands for: itself, but in a flag there may be several for true
  pub meant : Shape → ℕ → ℕ
  -- the numbers for a field that is cut, and for a number that is no value
  pub missing : ℕ
  pub meaningless : ℕ
  pub positive : 0 < base
  pub least : (n : ℕ) → 0 < n → 0 < pick n ((n + 3) / 4)
  pub most : (n : ℕ) → n ≤ 8 → pick n ((n + 3) / 4) ≤ 8
  pub own : (s : Shape) (v : ℕ) → v < values s → meant s v ≡ v
  pub plain : (s : Shape) (x : ℕ) → is_flag s ≡ false → meant s x ≡ x

-- The units of a field of so many bytes.
abbrev pub width_of : Units → ℕ → ℕ
width_of U n = U.pick n ((n + 3) / 4)

abbrev pub codec : Units → Fixed
codec U = standing U.base (λ s. width_of U (size s)) U.meant U.missing U.meaningless

-- Refusals tell all: a field that is cut or meaningless has the number that the code gives it, and its units write nothing but what its bytes hold.
pub record Exact (U : Units) : Type 0 where
  pub cut : U.missing ≡ 2
  pub meaningless-is : U.meaningless ≡ 5
  pub holds : (n : ℕ) → U.base ^ width_of U n ≤ 256 ^ n

-- All refusals are the same.
pub record Blind (number place : ℕ → ℕ) : Type 0 where
  pub one_number : (n n' : ℕ) → number n ≡ number n'
  pub one_place : (at at' : ℕ) → place at ≡ place at'

pub record Way : Type 0 where
  pub source : Units
  pub target : Units
  -- what a refusal becomes
  pub number : ℕ → ℕ
  pub place : ℕ → ℕ
  pub before : (at : ℕ) → place at ≤ at
  pub some : 0 < source.meaningless
  pub tells : Exact source ⊎ Blind number place

abbrev pub route : Way → Route
route W =
    record { source = codec W.source; target = codec W.target; refusal = λ n at. stopped (W.number n) (W.place at) }

-- The units of a field in the source and in the target.
abbrev pub source_units : Way → ℕ → ℕ
source_units W n = width_of W.source n

abbrev pub target_units : Way → ℕ → ℕ
target_units W n = width_of W.target n

-- The number at a place of the source.
abbrev pub value_at : Way → (size : ℕ) → List ℕ → ℕ → ℕ
value_at W n us at = number W.source.base (take (source_units W n) (drop at us))
