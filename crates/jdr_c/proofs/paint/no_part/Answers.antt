-- `jdr_c::paint::no_part` meets its contract: a table that is checked with 0 has a drawing, and each row below its count an object of it.
use mathlib.Core.Option.{Option, none}
use mathlib.Core.Path.{refl, sym}
use native.Mathlib.Omega.{arith}
use mir.Syntax.{w32}
use Rattle.format.specs.LeafLaws.{known_below}
use Rattle.drawing.specs.declared.PaintAnswer.TheVariants.{Refused}
use Rattle.drawing.specs.Paint.{Paint}
use Rattle.drawing.specs.Object.{Object}
use Rattle.drawing.specs.Questions.{paint_value}
use Rattle.questions.specs.RowQuestions.{asked, asked_part}
use Rattle.jdr_c.proofs.RefusedRows.{no_table_lem, no_such_row}
use Rattle.jdr_c.proofs.paint.no_part.Goals as goal

abbrev no_paint : Object → Option Paint
no_paint o = none

pub returns-then-checked-ne0 : goal.returns-then-checked-ne0
returns-then-checked-ne0 c =
    sym (no_table_lem (λ d. no_paint) (λ d. paint_value) (λ n. Refused n) c.check-checked.ensures c.args.row c.if-checked-ne0.true)

pub returns-then-checked-row : goal.returns-then-checked-row
returns-then-checked-row c =
    no_such_row (λ d. no_paint) (λ d. paint_value) (λ n. Refused n) c.check-checked.ensures c.args.row c.if-checked-ne0.false c.if-checked-row.true (λ d. refl)

pub returns : goal.returns
returns c =
    let below = known_below w32 c.args.bodies.now c.type_inv.bodies in
    let row = asked c.check-checked.ensures c.args.row c.if-checked-ne0.false below (omega (arith, c.if-checked-row.false)) in
    sym (asked_part (λ d. no_paint) (λ d. paint_value) (λ n. Refused n) row)
