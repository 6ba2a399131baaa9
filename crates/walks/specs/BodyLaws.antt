-- A pass over a layout in the words of a table: it went on behind a value, or there is none.
use Rattle.std.specs.Prelude.{ℕ, ◌-◌, ◌*◌, ◌^◌, ◌<◌, ◌≤◌, List, length}
use Rattle.std.proofs.Common.{arith}
use Rattle.format.specs.Digits.{Below}
use Rattle.format.specs.Kind.{Kind}
use Rattle.format.specs.Layout.{Layout, field}
use Rattle.laws.specs.CodecLaws.{words_sensible}
use Rattle.laws.specs.SizeLaws.{bytes-few}
use Rattle.laws.specs.ObjectBytes.{bytes_of}
use Rattle.ways.specs.declared.FieldPass.{FieldPass}
use Rattle.ways.specs.Passes.{refused}
use Rattle.ways.specs.Carries.{Asked, Laid}
use Rattle.ways.specs.FoundLaws.{Found, Unfound, laid-found, laid_unfound}
use Rattle.ways.specs.FoundLaws as Laws
use Rattle.ways.specs.TableWay.{table_way as way}

module _ {A : Type 0} (L : Layout A) {ws m m' : List ℕ} {at to at' to' : ℕ} (below : Below (2 ^ 32) ws) (inside : at ≤ length ws) (laid : Laid L.format way ws m m' at to at' to') where
  pub body-found : at' < refused → (a : A) × Found L way ws m m' at to at' to' a
  body-found on = laid-found way words_sensible ws below L inside laid on

  pub body_unfound : refused ≤ at' → Unfound L way ws at at' to'
  body_unfound gone = laid_unfound way words_sensible ws below L inside laid gone

  pub body_forward : at' < refused → at ≤ at'
  body_forward on = omega (arith, (body-found on).1.at-is)

module _ (k : Kind) {ws m m' : List ℕ} {at to : ℕ} {q : FieldPass} (below : Below (2 ^ 32) ws) (inside : at ≤ length ws) (asked : Asked k way ws m m' at to q) where
  pub field_found : q.pass.at < refused → Found (field k) way ws m m' at to q.pass.at q.pass.to q.value
  field_found on = Laws.field_found way words_sensible ws below k inside asked on

  pub field_unfound : refused ≤ q.pass.at → Unfound (field k) way ws at q.pass.at q.pass.to
  field_unfound gone = Laws.field_unfound way words_sensible ws below k inside asked gone

-- What is written is at most four bytes for a word.
pub found-few : {A : Type 0} (L : Layout A) {ws m m' : List ℕ} {at to at' to' : ℕ} {a : A} → Found L way ws m m' at to at' to' a → length (bytes_of L a) ≤ 4 * (at' - at)
found-few L {a = a} found = omega (arith, bytes-few L a, found.at-is)
