-- `extent::extent::extent_of` meets its contract.
use Rattle.std.specs.Prelude.{◌≡◌, ℕ, List}
use mathlib.Core.Path.{refl, sym, ap, ◌∙◌}
use Rattle.std.proofs.lemmas.Result.{err_from_is_err_and}
use Rattle.drawing.specs.declared.ExtentAnswer.{ExtentAnswer}
use Rattle.drawing.specs.Questions.{or_refusal, leaf_part}
use Rattle.drawing.specs.Extent.{no_extent, extent_of, outline_in}
use Rattle.drawing.specs.Computed.{extent_value, extent_answer}
use Rattle.questions.specs.Asking.{AskedRow}
use Rattle.questions.specs.RowQuestions.{asked_part, refused_row, of-row, body-there, short-there}
use Rattle.extent.specs.ExtentQuestion.{has_outline}
use Rattle.extent.specs.ExtentLaws.{answered, outline_holds, extent_answered}
use Rattle.extent.proofs.extent.extent_of.Goals as goal

-- What is answered of the row that was found is the answer of the question.
given : {cs ws : List ℕ} {row : ℕ} {cs' ws' : List ℕ} {v r : ℕ} (it : AskedRow cs ws row cs' ws' v r) {x : ExtentAnswer} → x ≡ answered cs' ws' v r it.asked.object → x ≡ extent_answer cs ws row
given {cs} {ws} {row} it {x} is =
    of-row (λ cs ws v r. x ≡ answered cs ws v r it.asked.object) it is
    ∙ ap (λ v. extent_value (extent_of v (or_refusal 7 (leaf_part outline_in it.asked.object)))) it.asked.version-is
    ∙ sym (asked_part (λ d. leaf_part outline_in) (λ d x. extent_value (extent_of d.version x)) (λ n. extent_value (no_extent n)) it.asked)

pub returns-in_err-row : goal.returns-in_err-row
returns-in_err-row c =
    let p = err_from_is_err_and c.from_residual.result c.from_residual.ensures.1 in
    rw (p.1, p.2) (refused_row (λ d. leaf_part outline_in) (λ d x. extent_value (extent_of d.version x)) (λ n. extent_value (no_extent n)) (λ d n. refl) c.args.contents.now c.args.words.now c.args.row c.in_err-row.field-0.0 c.in_err-row.ensures)

pub outline_extent-requires : goal.outline_extent-requires
outline_extent-requires c =
    let row = c.in_ok-row.row in
    let it = c.in_ok-row.ensures in
    outline_holds row.contents.now row.words.now row.version row.row c.outline_place-at.ensures it.asked.object (body-there it) (ap has_outline (sym c.kind.ensures) ∙ sym c.has_outline.ensures ∙ c.if-has_outline.true) (short-there it)

pub returns-in_default : goal.returns-in_default
returns-in_default c =
    let row = c.in_ok-row.row in
    let it = c.in_ok-row.ensures in
    given it (extent_answered row.contents.now row.words.now row.version row.row c.outline_place-at.ensures it.asked.object (body-there it) (ap has_outline (sym c.kind.ensures) ∙ sym c.has_outline.ensures ∙ c.if-has_outline.true) c.in_default.ensures)

pub returns-then-has_outline : goal.returns-then-has_outline
returns-then-has_outline c =
    let row = c.in_ok-row.row in
    let it = c.in_ok-row.ensures in
    given it (extent_answered row.contents.now row.words.now row.version row.row c.outline_place-at.ensures it.asked.object (body-there it) (ap has_outline (sym c.kind.ensures) ∙ sym c.has_outline.ensures ∙ c.if-has_outline.true) c.in-Some.ensures)
