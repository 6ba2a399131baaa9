-- Codecs of fixed width, read: the first digits are cut off, and the number that they write is judged.
use Rattle.std.specs.Prelude.{◌≡◌, ◌⊎◌, ℕ, zero, suc, List, [], ◌∷◌, length}
use Rattle.std.proofs.Math.Option.{Option, none, some, map}
use Rattle.format.specs.Digits.{Below, number}
use Rattle.format.specs.Kind.{Shape, Kind}
use Rattle.format.specs.FixedCodec.{Fixed, itself, SpellsFixed, Cut, Faulty}
use Rattle.format.specs.Codec.{Codec, Outcome, found, refused}

-- The first n units and those behind them, `none` where there are fewer.
abbrev pub split_at : ℕ → List ℕ → Option (List ℕ × List ℕ)
split_at zero us = some ([], us)
split_at (suc n) [] = none
split_at (suc n) (u ∷ us) = map (λ parts. (u ∷ parts.0, parts.1)) (split_at n us)

-- What the digits of a field come to: a value, or the number of a refusal.
pub data Verdict : Type 0 where
  value : ℕ → Verdict
  fault : ℕ → Verdict

abbrev pub judged : ℕ → ℕ → Verdict
judged v zero = value v
judged v (suc n) = fault (suc n)

abbrev pub verdict : Fixed → Kind → Option ℕ → Verdict
verdict F k none = fault F.meaningless
verdict F k (some v) = judged v (k.fault v)

abbrev pub judge : Fixed → Kind → List ℕ → Verdict
judge F k ds = verdict F k (F.meaning k.shape (number F.base ds))

abbrev pub conclude : Verdict → List ℕ → List ℕ → Outcome ℕ
conclude (value v) us rest = found v rest
conclude (fault n) us rest = refused n us

abbrev pub read_cut : Fixed → Kind → List ℕ → Option (List ℕ × List ℕ) → Outcome ℕ
read_cut F k us none = refused F.missing us
read_cut F k us (some parts) = conclude (judge F k parts.0) us parts.1

abbrev pub fixed : Fixed → Codec
fixed F =
    record {
      Units = Below F.base;
      Spells = λ k v us rest. SpellsFixed F k v us;
      Stops = λ k us n at. (at ≡ us) × (Cut F k us n ⊎ Faulty F k us n);
      read = λ k us. read_cut F k us (split_at (F.width k.shape) us);
    }

-- The codec in which a number stands for what `meant` makes of it, if that is one of the shape's values.
abbrev pub standing : (base : ℕ) → (Shape → ℕ) → (meant : Shape → ℕ → ℕ) → (missing meaningless : ℕ) → Fixed
standing base width meant missing meaningless =
    record { base = base; width = width; meaning = λ s x. itself s (meant s x); missing = missing; meaningless = meaningless }

-- The codec in which a number stands for itself.
abbrev pub literal : (base : ℕ) → (Shape → ℕ) → (missing meaningless : ℕ) → Fixed
literal base width missing meaningless = standing base width (λ s x. x) missing meaningless
