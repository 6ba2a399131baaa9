-- Runs of like fields of which none can be at fault, as a contract.
use Rattle.std.specs.Prelude.{◌≡◌, Bool, true, false, ℕ, ◌+◌, ◌*◌, ◌^◌, ◌<◌, ◌≤◌, List}
use Rattle.format.specs.Digits.{Below}
use Rattle.format.specs.Kind.{Kind, size, values}
use Rattle.format.specs.Layout.{field, repeat}
use Rattle.format.specs.RunLaws.{values_at, put_many}
use Rattle.drawing.specs.String.{chars}
use Rattle.ways.specs.declared.Pass.{Pass}
use Rattle.ways.specs.Way.{Way, Blind, source_units, target_units, value_at}
use Rattle.ways.specs.Carries.{Laid, Valued}

-- A kind of field of so many bytes, any of whose values is allowed.
pub record Any (bytes : ℕ) (k : Kind) : Type 0 where
  pub sized : size k.shape ≡ bytes
  pub all : values k.shape ≡ 256 ^ bytes
  pub faultless : (v : ℕ) → k.fault v ≡ 0

-- The numbers of so many fields are values.
abbrev pub AllSmall : Way → (size : ℕ) → List ℕ → (at count : ℕ) → Type 0
AllSmall W size us at count = (i : ℕ) → i < count → value_at W size us (at + i * source_units W size) < 256 ^ size

-- What a test that one of them is no value says. Where there can be one, no refusal tells its place.
pub record HasWide (W : Way) (size : ℕ) (us : List ℕ) (at count : ℕ) (r : Bool) : Type 0 where
  pub none : r ≡ false → Below W.source.base us → AllSmall W size us at count
  pub one : r ≡ true → Blind W.number W.place × ((i : ℕ) × (i < count) × (256 ^ size ≤ value_at W size us (at + i * source_units W size)))

-- So many fields, put one behind the other where they fit.
abbrev pub copied : Way → (size count : ℕ) → (us : List ℕ) → (at to : ℕ) → List ℕ → List ℕ
copied W size count us at to m = put_many W.source.base (source_units W size) W.target.base (target_units W size) us count at to m

-- A run was passed, whatever its kind.
pub record Runs (W : Way) (size count : ℕ) (us m m' : List ℕ) (at to : ℕ) (r : Pass) : Type 0 where
  pub values : (k : Kind) → Any size k → Valued (repeat count (field k)).format (values_at W.source.base (source_units W size) us count at) W us m m' at to r.at r.to
  pub chars : size ≡ 2 → Laid (chars count).format W us m m' at to r.at r.to
