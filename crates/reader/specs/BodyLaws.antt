-- The laws of a body with its row: what its fields come to, by what they parse to.
use Rattle.std.specs.Prelude.{◌≡◌, refl, ℕ, ◌+◌, ◌-◌, ◌*◌, ◌<◌, ◌≤◌, List, length, drop}
use Rattle.std.proofs.Common.{sym, ap, subst, ◌∙◌, arith}
use Rattle.format.specs.Digits.{Below}
use Rattle.format.specs.Codec.{Outcome, found, refused}
use Rattle.format.specs.Layout.{Layout}
use Rattle.format.specs.Parse.{parse}
use Rattle.format.specs.Pass.{put}
use Rattle.drawing.specs.Reading.{bytes}
use Rattle.drawing.specs.Limits.{length_limit}
use Rattle.drawing.specs.Table.{row_width, row as row_words, words_of}
use Rattle.laws.specs.CodecLaws.{bytes_sensible}
use Rattle.laws.specs.SizeLaws.{words-few}
use Rattle.ways.specs.declared.Pass.{Pass}
use Rattle.ways.specs.Passes as Passes
use Rattle.ways.specs.Passes.{Ready}
use Rattle.ways.specs.Carries.{Laid}
use Rattle.ways.specs.Written.{Writes, put_written}
use Rattle.ways.specs.FoundLaws.{Found, laid-found, laid_unfound}
use Rattle.rows.specs.declared.walked.Walked.{Walked}
use Rattle.from_file.specs.Way.{way}
use Rattle.reader.specs.Descents.{Stands, Part, Met, Stopped, Comes, Descends, Rowed}

-- What a pass needs, where a descent stands.
pub stands_ready : {total at row to : ℕ} → Stands total at row to → Ready total at to
stands_ready stands =
    let short = stands.short in
    let inside = stands.inside in
    let few = stands.few_words in
    record { short = short; near = omega arith; inside = λ h. inside; few = λ h. omega arith }

-- A refusal tells the place.
pub stopped_gone : {file : List ℕ} {r : Walked} {n : ℕ} {place : List ℕ} → Stopped file r n place → Passes.refused ≤ r.at
stopped_gone stopped = omega (arith, stopped.at-is)

-- A descent that goes on has met something, and one that does not was refused.
pub record Over {A : Type 0} (part : A → Part) (o : Outcome A) (file cs bs cs' bs' : List ℕ) (at row to : ℕ) (r : Walked) : Type 0 where
  pub value : A
  pub parsed : o ≡ found value (drop r.at file)
  pub here : Met (part value) file cs bs cs' bs' at row to r (drop r.at file)

pub record Gone {A : Type 0} (o : Outcome A) (file : List ℕ) (r : Walked) : Type 0 where
  pub n : ℕ
  pub place : List ℕ
  pub parsed : o ≡ refused n place
  pub stopped : Stopped file r n place

module _ {A : Type 0} {part : A → Part} {o : Outcome A} {file cs bs cs' bs' : List ℕ} {at row to : ℕ} {r : Walked} where
  pub descends_over : length file ≤ length_limit → Descends part o file cs bs cs' bs' at row to r → r.at < Passes.refused → Over part o file cs bs cs' bs' at row to r
  descends_over short descends on = by o refl descends.comes
    where
      by : (q : Outcome A) → o ≡ q → Comes part file cs bs cs' bs' at row to r q → Over part o file cs bs cs' bs' at row to r
      by (found a rest) is met =
          record { value = a; parsed = is ∙ ap (λ us. found a us) met.rest-is; here = subst (λ us. Met (part a) file cs bs cs' bs' at row to r us) met.rest-is met }
      by (refused n place) is stopped = absurd (omega (arith, stopped_gone stopped))

  pub descends_gone : length file ≤ length_limit → Descends part o file cs bs cs' bs' at row to r → Passes.refused ≤ r.at → Gone o file r
  descends_gone short descends off = by o refl descends.comes
    where
      by : (q : Outcome A) → o ≡ q → Comes part file cs bs cs' bs' at row to r q → Gone o file r
      by (found a rest) is met = absurd (omega (arith, met.inside))
      by (refused n place) is stopped = record { n = n; place = place; parsed = is; stopped = stopped }

  pub descends_met : {a : A} → o ≡ found a (drop r.at file) → Met (part a) file cs bs cs' bs' at row to r (drop r.at file) → Descends part o file cs bs cs' bs' at row to r
  descends_met is met = record { comes = subst (Comes part file cs bs cs' bs' at row to r) (sym is) met }

  pub descends_stopped : {n : ℕ} {place : List ℕ} → o ≡ refused n place → Stopped file r n place → Descends part o file cs bs cs' bs' at row to r
  descends_stopped is stopped = record { comes = subst (Comes part file cs bs cs' bs' at row to r) (sym is) stopped }

-- ---- a body with its row

module _ {A : Type 0} {L : Layout A} {kind parent start row next : ℕ} {file cs bs cs' bs' : List ℕ} {at to : ℕ} {r : Walked} (below : Below 256 file) (inside : at ≤ length file)
    (rowed : Rowed L kind parent start row next file cs bs cs' bs' at to r) where
  pub record Body (a : A) : Type 0 where
    pub found-is : Found L way file bs bs' at to r.at r.to a
    pub row_is : r.row ≡ next
    pub row_written : Writes (row_width * row) (row_words kind parent start (r.to - start)) cs cs'
    pub few : length (words_of L a) + at ≤ r.at

  pub body_met : r.at < Passes.refused → (a : A) × Body a
  body_met on =
      let f = laid-found way bytes_sensible file below L inside rowed.laid on in
      let stored = rowed.rowed on in (
        f.0,
        record {
          found-is = f.1;
          row_is = stored.0;
          row_written = put_written (row_words kind parent start (r.to - start)) stored.1;
          few = omega (arith, words-few L f.0, f.1.at-is);
        },
      )

  pub body-stopped : Passes.refused ≤ r.at → Gone (parse bytes L (drop at file)) file r
  body-stopped off =
      let u = laid_unfound way bytes_sensible file below L inside rowed.laid off in
      record { n = u.n; place = u.place; parsed = u.parsed; stopped = record { at-is = u.at-is; to_is = u.to_is } }

-- What a body that was found takes.
pub record Grows (file : List ℕ) (at to at' to' : ℕ) : Type 0 where
  pub on : to ≤ to'
  pub inside : at' ≤ length file
  pub few : to' + at ≤ at' + to

pub body_grows : {A : Type 0} (L : Layout A) {file m m' : List ℕ} {at to at' to' : ℕ} → Below 256 file → at ≤ length file → Laid L.format way file m m' at to at' to' → at' < Passes.refused
    → Grows file at to at' to'
body_grows L {file} below inside laid on =
    let f = laid-found way bytes_sensible file below L inside laid on in
    record { on = omega (arith, f.1.to_is); inside = f.1.inside; few = omega (arith, words-few L f.0, f.1.at-is, f.1.to_is) }

-- The row of such a body is small: it starts in front of the words that the body takes, or of one that was stored there before.
pub row_room : (row start : ℕ) {file : List ℕ} {at next to at' to' : ℕ} → Stands (length file) at next to → row ≤ next → start ≤ to → Grows file at to at' to'
    → (start ≤ to') × ((row ≤ length_limit) × (start ≤ length_limit) × (to' - start ≤ length_limit))
row_room row start stands before starts grows =
    let short = stands.short in
    let inside = stands.inside in
    let few-rows = stands.few-rows in
    let few_words = stands.few_words in
    let on = grows.on in
    let there = grows.inside in
    let few = grows.few in
    (omega arith, (omega arith, omega arith, omega arith))

module _ {A : Type 0} {L : Layout A} {kind parent start row next : ℕ} {file cs bs bs' : List ℕ} {at to : ℕ} {p : Pass} (laid : Laid L.format way file bs bs' at to p.at p.to) where
  pub rowed_stopped : {r : Walked} → Passes.refused ≤ p.at → r ≡ record { row = row; at = p.at; to = p.to } → Rowed L kind parent start row next file cs bs cs bs' at to r
  rowed_stopped off is = rw is (record { laid = laid; rowed = λ on. absurd (omega arith) })

  pub rowed_stored : {cs' : List ℕ} → cs' ≡ put (row_width * row) (row_words kind parent start (p.to - start)) cs → Rowed L kind parent start row next file cs bs cs' bs' at to (record { row = next; at = p.at; to = p.to })
  rowed_stored is = record { laid = laid; rowed = λ on. (refl, is) }
