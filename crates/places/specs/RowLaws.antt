-- The rows of a table that was checked.
use Rattle.std.specs.Prelude.{◌≡◌, refl, ℕ, ◌+◌, ◌*◌, ◌<◌, ◌≤◌, List, length, get_or}
use Rattle.std.proofs.Common.{sym, ap, subst, ◌∙◌, arith}
use Rattle.std.proofs.Math.Logic.{∥∥₁_elim}
use Rattle.std.proofs.Math.Option.{Option, none, some}
use Rattle.std.specs.Coded.{le_prop}
use Rattle.drawing.specs.declared.Answer.{Answer}
use Rattle.drawing.specs.Limits.{length_limit}
use Rattle.drawing.specs.Drawing.{Drawing, outer}
use Rattle.drawing.specs.Table.{head_words, row_width, start_in}
use Rattle.drawing.specs.TableDrawing.{drawing_of_table}
use Rattle.drawing.specs.Order.{objects_of}
use Rattle.drawing.specs.Answers.{rows_of}
use Rattle.drawing.specs.Computed.{check_from}
use Rattle.promises.specs.Promises.{Checks}
use Rattle.laws.specs.CountLaws.{table_limits}
use Rattle.laws.specs.OrderLaws.{contents-length}
use Rattle.laws.specs.RowBodies.{RowBody}
use Rattle.laws.specs.RowBodyLaws.{row-body}
use Rattle.places.specs.Rows.{TableHere, HasRow}

-- A table that is checked with 0 has a drawing, and its rows are counted.
pub checked-drawing : {c bs : List ℕ} {a : Answer} → Checks c bs a → a.number ≡ 0 → (d : Drawing) × ((drawing_of_table c bs ≡ some d) × (a.rows ≡ rows_of d))
checked-drawing {c} {bs} {a} checks good = by (drawing_of_table c bs) refl
  where
    by : (o : Option Drawing) → drawing_of_table c bs ≡ o → (d : Drawing) × ((drawing_of_table c bs ≡ some d) × (a.rows ≡ rows_of d))
    by none is = let z : ◌≡◌ {A = ℕ} 0 16 = sym good ∙ ap (λ x. x.number) (checks.says ∙ ap check_from is) in absurd (omega arith)
    by (some d) is = (d, (is, ap (λ x. x.rows) (checks.says ∙ ap check_from is)))

module _ {c bs : List ℕ} {rows version : ℕ} (table : TableHere c bs rows version) where
  limits : (length c ≤ 4 * length_limit) × (length bs ≤ length_limit)
  limits = table_limits c bs table.d table.is-table

  long : length c ≡ 4 * rows_of table.d
  long = ap length table.is-table.contents-are ∙ contents-length (outer table.d) table.d.version 0 0 (length (head_words table.d))

  pub rows-small : rows ≤ length_limit
  rows-small = omega (arith, limits.0, long, table.rows_are)

  module _ (row : ℕ) (more : row < rows) where
    inside : row < rows_of table.d
    inside = subst (λ n. row < n) table.rows_are more

    pub object-here : RowBody c bs version row (get_or (objects_of table.d) row (outer table.d))
    object-here = subst (λ v. RowBody c bs v row (get_or (objects_of table.d) row (outer table.d))) (sym table.version-is) (row-body c bs table.d table.is-table row inside)

    pub row_here : HasRow c bs version row
    row_here =
        record {
          object = get_or (objects_of table.d) row (outer table.d);
          body = object-here;
          row_inside = omega (arith, long, inside);
          short = limits.1;
        }

-- ---- a row of some object

module _ {c bs : List ℕ} {v r : ℕ} (stands : ∥ HasRow c bs v r ∥₁) where
  pub row_short : length bs ≤ length_limit
  row_short = ∥∥₁_elim stands le_prop (λ has. has.short)

  -- The words of its body are there.
  pub body-inside : start_in c r + get_or c (row_width * r + 3) 0 ≤ length bs
  body-inside = ∥∥₁_elim stands le_prop (λ has. omega (arith, has.body.inside, has.body.size_is))
