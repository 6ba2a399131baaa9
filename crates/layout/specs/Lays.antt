-- Contracts of functions over a way's source and target.
use Rattle.std.specs.Prelude.{◌≡◌, ℕ, ◌^◌, ◌<◌, ◌≤◌, List, length}
use Rattle.format.specs.Kind.{Kind, Shape, size, values}
use Rattle.format.specs.Layout.{Layout}
use Rattle.drawing.specs.Fields.{count}
use Rattle.ways.specs.declared.Pass.{Pass}
use Rattle.ways.specs.declared.FieldPass.{FieldPass}
use Rattle.ways.specs.Passes.{Ready}
use Rattle.ways.specs.Faults.{Ranged}
use Rattle.ways.specs.Carries.{Asked, Laid}
use Rattle.ways.specs.Way.{Way}

abbrev pub Begins : List ℕ → (at to : ℕ) → Type 0
Begins us at to = Ready (length us) at to

-- Over the fields of a layout.
abbrev pub Lays : Way → {A : Type 0} → Layout A → (us m m' : List ℕ) → (at to : ℕ) → Pass → Type 0
Lays W L us m m' at to r = Laid L.format W us m m' at to r.at r.to

-- Over one field of a kind.
abbrev pub Asks : Way → Kind → (us m m' : List ℕ) → (at to : ℕ) → FieldPass → Type 0
Asks W k us m m' at to r = Asked k W us m m' at to r

-- Over one field of any kind with this range.
pub record Ranges (W : Way) (size low high fault : ℕ) (us m m' : List ℕ) (at to : ℕ) (r : FieldPass) : Type 0 where
  pub asks : (k : Kind) → Ranged k size low high fault → Asks W k us m m' at to r
  pub small : r.value ≤ high

-- Over one field that is a count: of any shape of four bytes.
pub record Counts (W : Way) (least : ℕ) (us m m' : List ℕ) (at to : ℕ) (r : FieldPass) : Type 0 where
  pub asks : (s : Shape) → size s ≡ 4 → values s ≡ 256 ^ 4 → Asks W (record { shape = s; fault = (count least).fault }) us m m' at to r
  pub small : r.value < 2 ^ 32
