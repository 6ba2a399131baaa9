-- What the functions over parts that are judged whole promise.
use Rattle.std.specs.Prelude.{◌≡◌, refl, ℕ, zero, suc, ◌<◌, ◌≤◌, List, length}
use Rattle.std.proofs.Common.{ap, arith}
use Rattle.format.specs.Script.{Script}
use Rattle.format.specs.Layout.{Layout, field, repeat}
use Rattle.format.specs.Pass.{◌⟫◌, done}
use Rattle.drawing.specs.Fields as F
use Rattle.ways.specs.declared.Pass.{Pass}
use Rattle.ways.specs.Carries.{Laid}
use Rattle.ways.specs.Runs.{Any}
use Rattle.from_file.specs.Way.{way}
use Rattle.pieces.specs.TallyLaws.{Asks}
use Rattle.pieces.specs.Going.{room}
use Rattle.pieces.specs.Parts.{part_then}
use Rattle.pieces.specs.BoundLaws.{Most}
use Rattle.pieces.specs.PartBounds.{doubles_most}
use Rattle.session_run.specs.declared.cursor.Cursor.{Cursor}
use Rattle.session_run.specs.Steps.{StepsTo, steps_same, layout_steps}

-- The fields of a layout were judged.
pub record Whole {A : Type 0} (L : Layout A) (us : List ℕ) (at to : ℕ) (r : Pass) : Type 0 where
  pub steps : (K : Script (Unit {0})) → StepsTo (L ⟫ K) K us at to r.at r.to

-- The part with this digit was.
pub record PartWhole (v x y part : ℕ) (us : List ℕ) (at to : ℕ) (r : Pass) : Type 0 where
  pub steps : (n : ℕ) (K : Script (Unit {0})) → StepsTo (part_then v n x y part K) K us at to r.at r.to

-- The same from a place in a file's bytes.
abbrev pub WholeHere : {A : Type 0} → Layout A → Cursor → Pass → Type 0
WholeHere L here r = Whole L here.src.now here.at here.to r

abbrev pub PartHere : (v x y part : ℕ) → Cursor → Pass → Type 0
PartHere v x y part here r = PartWhole v x y part here.src.now here.at here.to r

pub laid-whole : {A : Type 0} (L : Layout A) {n : ℕ} → Most n L → n ≤ room → Asks (L ⟫ done) → {us m m' : List ℕ} {at to : ℕ} {r : Pass} → at ≤ length us → Laid L.format way us m m' at to r.at r.to → Whole L us at to r
laid-whole L most fits asks inside laid = record { steps = λ K. layout_steps L most fits asks K inside laid }

pub whole_part : {A : Type 0} {L : Layout A} {v x y part : ℕ} {us : List ℕ} {at to : ℕ} {r : Pass} → ((n : ℕ) (K : Script (Unit {0})) → part_then v n x y part K ≡ L ⟫ K) → Whole L us at to r → PartWhole v x y part us at to r
whole_part is whole = record { steps = λ n K. steps_same (is n K) refl (whole.steps K) }

-- The same, by what the digit is.
pub part_at : {v x y part c : ℕ} {us : List ℕ} {at to : ℕ} {r : Pass} → part ≡ c → PartWhole v x y c us at to r → PartWhole v x y part us at to r
part_at {v} {x} {y} is whole = record { steps = λ n K. steps_same (ap (λ c. part_then v n x y c K) is) refl (whole.steps n K) }

-- A few doubles.
pub doubles-whole : (count : ℕ) → 0 < count → count ≤ 6 → {us m m' : List ℕ} {at to : ℕ} {r : Pass} → at ≤ length us → Laid (repeat count (field F.double)).format way us m m' at to r.at r.to → Whole (repeat count (field F.double)) us at to r
doubles-whole zero some few inside laid = absurd (omega arith)
doubles-whole (suc n) some few inside laid = laid-whole (repeat (suc n) (field F.double)) (doubles_most (suc n)) (omega arith) (omega arith) inside laid

pub any-double : Any 8 F.double
any-double = record { sized = refl; all = refl; faultless = λ v. refl }
