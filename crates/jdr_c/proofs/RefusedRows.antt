-- A question about a part, of a table that is refused and of a row that the table does not have.
use Rattle.std.specs.Prelude.{◌≡◌, refl, ℕ, ◌≤◌, List}
use Rattle.std.proofs.Common.{sym, ap, ◌∙◌, arith}
use Rattle.std.proofs.Math.Option.{Option, none, some}
use Rattle.drawing.specs.declared.Answer.{Answer}
use Rattle.drawing.specs.Object.{Object}
use Rattle.drawing.specs.Drawing.{Drawing}
use Rattle.drawing.specs.TableDrawing.{drawing_of_table}
use Rattle.drawing.specs.Computed.{from_table, check_from}
use Rattle.drawing.specs.Questions.{Found, refusal, part_at, part_of}
use Rattle.promises.specs.Promises.{Checks}
use Rattle.laws.specs.RowBodyLaws.{no_row}
use Rattle.places.specs.RowLaws.{checked-drawing}
use Rattle.questions.specs.RowQuestions.{answered}

module _ {A R : Type 0} (has : Drawing → Object → Option A) (make : Drawing → Found A → R) (bad : ℕ → R) where
  pub no_table_lem : {c bs : List ℕ} {a : Answer} → Checks c bs a → (row : ℕ) → (a.number ≡ 0 → ⊥) → answered has make bad c bs row ≡ bad 16
  no_table_lem {c} {bs} checks row gone = by (drawing_of_table c bs) refl
    where
      by : (o : Option Drawing) → drawing_of_table c bs ≡ o → answered has make bad c bs row ≡ bad 16
      by none is = ap (from_table (λ d. make d (part_of (has d) row d)) (bad 16)) is
      by (some d) is = absurd (gone (ap (λ x. x.number) (checks.says ∙ ap check_from is)))

  -- Whatever the drawing is, this is made of the refusal of a row that it does not have.
  pub no_such_row : {c bs : List ℕ} {a : Answer} → Checks c bs a → (row : ℕ) → a.number ≡ 0 → a.rows ≤ row → {r : R} → ((d : Drawing) → r ≡ make d (refusal 6)) → r ≡ answered has make bad c bs row
  no_such_row checks row good past made =
      let at = checked-drawing checks good in
      let d = at.0 in
      made d ∙ sym (ap (from_table (λ d. make d (part_of (has d) row d)) (bad 16)) at.1.0 ∙ ap (λ x. make d (part_at (has d) x)) (no_row d row (omega (arith, at.1.1, past))))
