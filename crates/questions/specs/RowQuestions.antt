-- A question about a part of a row's object: a table that was checked, and a row of it.
use Rattle.std.specs.Prelude.{◌≡◌, refl, ℕ, ◌^◌, ◌<◌, ◌≤◌, List, length, get_or}
use Rattle.std.proofs.Common.{sym, ap, subst, ◌∙◌, arith}
use Rattle.std.proofs.Math.Option.{Option, none, some}
use Rattle.format.specs.Digits.{Below}
use Rattle.drawing.specs.declared.Answer.{Answer}
use Rattle.drawing.specs.Object.{Object}
use Rattle.drawing.specs.Drawing.{Drawing, outer}
use Rattle.drawing.specs.TableDrawing.{drawing_of_table}
use Rattle.drawing.specs.Order.{objects_of}
use Rattle.drawing.specs.Answers.{rows_of, table_refused}
use Rattle.drawing.specs.Limits.{length_limit}
use Rattle.drawing.specs.Computed.{from_table, check_from}
use Rattle.promises.specs.Promises.{Checks}
use Rattle.drawing.specs.Questions.{Found, refusal, or_refusal, part_at, part_of}
use Rattle.laws.specs.TableLaws.{drawing-of_table}
use Rattle.laws.specs.RowBodies.{RowBody}
use Rattle.laws.specs.RowBodyLaws.{row-object, no_row, version_word}
use Rattle.places.specs.Rows.{TableHere}
use Rattle.places.specs.RowLaws.{checked-drawing, object-here, row_here}
use Rattle.questions.specs.declared.asked.Refusal.{Refusal}
use Rattle.questions.specs.declared.asked.Refusal.TheVariants.{NoTable, NoRow, NoPart, NotANumber}
use Rattle.questions.specs.Asking.{Asked, AskedRow, number_of, Refuses}

-- A question about a part, answered by what is made of the part in the drawing, or of a refusal's number.
module _ {A R : Type 0} (has : Drawing → Object → Option A) (make : Drawing → Found A → R) (bad : ℕ → R) where
  abbrev pub answered : (contents bodies : List ℕ) → ℕ → R
  answered contents bodies row = from_table (λ d. make d (part_of (has d) row d)) (bad 16) (drawing_of_table contents bodies)

  pub asked_part : {c bs : List ℕ} {row : ℕ} → (asked : Asked c bs row) → answered c bs row ≡ make asked.d (or_refusal 7 (has asked.d asked.object))
  asked_part {row = row} asked = ap (from_table (λ d. make d (part_of (has d) row d)) (bad 16)) asked.is ∙ ap (λ x. make asked.d (part_at (has asked.d) x)) asked.object-is

  -- A row that is refused is answered by the refusal's number.
  pub refused_row : ((d : Drawing) (n : ℕ) → make d (refusal n) ≡ bad n) → (c bs : List ℕ) (row : ℕ) (e : Refusal) → Refuses c bs row e → bad (number_of e) ≡ answered c bs row
  refused_row made c bs row NoTable is = sym (ap (from_table (λ d. make d (part_of (has d) row d)) (bad 16)) is)
  refused_row made c bs row NoRow at =
      let d = at.0 in
      sym (ap (from_table (λ d. make d (part_of (has d) row d)) (bad 16)) at.1.0 ∙ ap (λ x. make d (part_at (has d) x)) (no_row d row at.1.1) ∙ made d 6)
  refused_row made c bs row NoPart is = absurd is
  refused_row made c bs row NotANumber is = absurd is

-- What holds at the row that is given holds at the one that was asked about, and the other way round.
module _ (Q : List ℕ → List ℕ → ℕ → ℕ → Type 0) {c bs : List ℕ} {row : ℕ} {c' bs' : List ℕ} {v r : ℕ} (it : AskedRow c bs row c' bs' v r) where
  pub of-row : Q c' bs' v r → Q c bs (get_or bs 0 0) row
  of-row q = subst (λ x. Q x bs (get_or bs 0 0) row) it.contents-are (subst (λ x. Q c' x (get_or bs 0 0) row) it.bodies-are (subst (λ x. Q c' bs' x row) it.version-is (subst (λ x. Q c' bs' v x) it.row_is q)))

  pub at-row : Q c bs (get_or bs 0 0) row → Q c' bs' v r
  at-row q = subst (λ x. Q c' bs' v x) (sym it.row_is) (subst (λ x. Q c' bs' x row) (sym it.version-is) (subst (λ x. Q c' x (get_or bs 0 0) row) (sym it.bodies-are) (subst (λ x. Q x bs (get_or bs 0 0) row) (sym it.contents-are) q)))

-- The body of its object.
pub body-there : {c bs : List ℕ} {row : ℕ} {c' bs' : List ℕ} {v r : ℕ} (it : AskedRow c bs row c' bs' v r) → RowBody c' bs' v r it.asked.object
body-there it = at-row (λ c bs v r. RowBody c bs v r it.asked.object) it it.asked.body

pub short-there : {c bs : List ℕ} {row : ℕ} {c' bs' : List ℕ} {v r : ℕ} → AskedRow c bs row c' bs' v r → length bs' ≤ length_limit
short-there it = subst (λ x. length x ≤ length_limit) (sym it.bodies-are) it.asked.has.short

-- A table that is refused has no drawing.
pub no_drawing : {c bs : List ℕ} → Checks c bs table_refused → drawing_of_table c bs ≡ none
no_drawing {c} {bs} checks = by (drawing_of_table c bs) refl
  where
    by : (o : Option Drawing) → drawing_of_table c bs ≡ o → drawing_of_table c bs ≡ none
    by none is = is
    by (some d) is = let z : ◌≡◌ {A = ℕ} 16 0 = ap (λ x. x.number) (checks.says ∙ ap check_from is) in absurd (omega arith)

module _ {c bs : List ℕ} {a : Answer} (checks : Checks c bs a) (row : ℕ) where
  module _ (good : a.number ≡ 0) where
    checked : (d : Drawing) × ((drawing_of_table c bs ≡ some d) × (a.rows ≡ rows_of d))
    checked = checked-drawing checks good

    pub asked : Below (2 ^ 32) bs → row < a.rows → Asked c bs row
    asked below inside =
        let d = checked.0 in
        let more : row < rows_of d = omega (arith, checked.1.1, inside) in
        let is-table = (drawing-of_table c bs below d).0 checked.1.0 in
        let o = get_or (objects_of d) row (outer d) in
        let version-is = version_word c bs d is-table in
        let table : TableHere c bs (rows_of d) (get_or bs 0 0) = record { d = d; is-table = is-table; rows_are = refl; version-is = version-is } in
        record {
          d = d;
          is = checked.1.0;
          object = o;
          object-is = row-object d row more;
          begun = subst (λ l. 0 < length l) (sym is-table.bodies-are) (omega arith);
          version-is = version-is;
          body = object-here table row more;
          has = row_here table row more;
        }
