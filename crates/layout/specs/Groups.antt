-- Groups of fields that are passed one by one where they are not as they usually are: what has to be known of each, and what it comes to.
use Rattle.std.specs.Prelude.{◌≡◌, true, ℕ, ◌+◌, ◌*◌, ◌^◌, ◌<◌, ◌≤◌, List, length}
use Rattle.std.proofs.Common.{sym, subst}
use Rattle.std.proofs.Math.Option.{some}
use Rattle.format.specs.Layout.{field, repeat, ◌&◌}
use Rattle.drawing.specs.Fields as F
use Rattle.ways.specs.declared.Pass.{Pass}
use Rattle.ways.specs.Way.{Way, source_units, value_at}
use Rattle.ways.specs.Moves.{Led}
use Rattle.ways.specs.Segments.{Ended, spelled, segment_then, end_before}
use Rattle.ways.specs.TextLaws.{face}
use Rattle.layout.specs.declared.each.Group.{Group}
use Rattle.layout.specs.declared.each.Group.TheVariants.{Color, Hsb, Face, Segment, JoinedSegment}
use Rattle.layout.specs.Lays.{Lays}

-- A letter is there.
abbrev LetterAt : Way → List ℕ → ℕ → Type 0
LetterAt W us at = (at + source_units W 2 ≤ length us) × (value_at W 2 us at < 256 ^ 2)

-- What is known of the place where a group begins.
abbrev pub Stands : Way → Group → List ℕ → ℕ → Type 0
Stands W (Color count) us at = LetterAt W us at
Stands W Hsb us at = LetterAt W us at
Stands W Face us at = Unit {0}
Stands W (Segment start) us at = start ≤ 2
Stands W JoinedSegment us at = (2 * source_units W 8 ≤ at) × (at ≤ length us)

abbrev pub Comes : Way → Group → (us m m' : List ℕ) → (at to : ℕ) → Pass → Type 0
Comes W (Color count) us m m' at to r = Led W (repeat count (field F.component)).format us m m' at to r
Comes W Hsb us m m' at to r = Led W (field F.hue & repeat 3 (field F.component)).format us m m' at to r
Comes W Face us m m' at to r = Lays W face us m m' at to r
Comes W (Segment start) us m m' at to r = Ended (spelled start) W us m m' at to r
Comes W JoinedSegment us m m' at to r = Ended (segment_then true (some (end_before W us at))) W us m m' at to r

-- The fields of a group were passed one by one.
pub record EachOf (W : Way) (group : Group) (us m m' : List ℕ) (at to : ℕ) (r : Pass) : Type 0 where
  pub comes : Comes W group us m m' at to r

-- ---- laws

-- It is known which group this is.
pub stands_so : (W : Way) {group this : Group} (us : List ℕ) (at : ℕ) → group ≡ this → Stands W group us at → Stands W this us at
stands_so W us at is stands = subst (λ g. Stands W g us at) is stands

pub comes_so : {W : Way} {group this : Group} {us m m' : List ℕ} {at to : ℕ} {r : Pass} → group ≡ this → EachOf W this us m m' at to r → EachOf W group us m m' at to r
comes_so {W} {us = us} {m} {m'} {at} {to} {r} is each = subst (λ g. EachOf W g us m m' at to r) (sym is) each
