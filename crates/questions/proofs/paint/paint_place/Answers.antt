-- `questions::paint::paint_place` meets its contract.
use mathlib.Core.Path.{sym, ap, subst, ◌∙◌}
use Rattle.questions.specs.TextQuestion.{has_text}
use Rattle.questions.specs.PaintQuestion.{Painted}
use Rattle.questions.specs.PaintQuestionLaws.{line_painted, fill_painted, text-painted}
use Rattle.questions.proofs.paint.paint_place.Goals as goal

pub returns-in-Line : goal.returns-in-Line
returns-in-Line c =
    let row = c.args.row.now in
    λ o body. subst (λ w. Painted row.words.now row.version w o c.start.result) (sym c.in-Line.is) (line_painted row.contents.now row.words.now row.version row.row c.start.ensures.is o body (sym c.kind-kind.ensures ∙ c.if-kind-eq-PATH_KIND.true))

pub returns-in-Fill : goal.returns-in-Fill
returns-in-Fill c =
    let row = c.args.row.now in
    λ o body. subst (λ w. Painted row.words.now row.version w o c.behind.result) (sym c.in-Fill.is) (fill_painted row.contents.now row.words.now row.version row.row c.start-in-Fill.ensures.is c.behind.ensures.is o body (sym c.kind-kind.ensures ∙ c.if-kind-eq-PATH_KIND-2.true))

pub returns-in-Text : goal.returns-in-Text
returns-in-Text c =
    let row = c.args.row.now in
    λ o body. subst (λ w. Painted row.words.now row.version w o c.text_places.result.paint) (sym c.in-Text.is) (text-painted row.contents.now row.words.now row.version row.row c.text_places.ensures o body (ap has_text (sym c.kind-kind.ensures) ∙ sym c.has_text.ensures ∙ c.if-has_text.true))
