-- `questions::paint::paint_of` meets its contract.
use mathlib.Core.Path.{refl, sym, ◌∙◌}
use Rattle.std.proofs.lemmas.Result.{err_from_is_err_and}
use Rattle.drawing.specs.declared.PaintAnswer.TheVariants.{Refused}
use Rattle.drawing.specs.Questions.{paint_part, paint_value}
use Rattle.questions.specs.RowQuestions.{asked_part, refused_row, body-there, short-there}
use Rattle.questions.specs.PaintQuestionLaws.{painted_holds, paint-answered}
use Rattle.questions.proofs.paint.paint_of.Goals as goal

pub returns-in_err-row : goal.returns-in_err-row
returns-in_err-row c =
    let p = err_from_is_err_and c.from_residual.result c.from_residual.ensures.1 in
    rw (p.1, p.2) (refused_row (λ d. paint_part c.args.which) (λ d. paint_value) Refused (λ d n. refl) c.args.contents.now c.args.words.now c.args.row c.in_err-row.field-0.0 c.in_err-row.ensures)

pub paint_at-requires : goal.paint_at-requires
paint_at-requires c =
    let row = c.in_ok-row.row in
    let it = c.in_ok-row.ensures in
    painted_holds row.contents.now row.words.now row.version row.row (short-there it) (c.in-Some.ensures it.asked.object (body-there it))

pub returns : goal.returns
returns c =
    let row = c.in_ok-row.row in
    let it = c.in_ok-row.ensures in
    paint-answered row.contents.now row.words.now row.version row.row (c.in-Some.ensures it.asked.object (body-there it)) c.paint_at.ensures
    ∙ sym (asked_part (λ d. paint_part c.args.which) (λ d. paint_value) Refused it.asked)
