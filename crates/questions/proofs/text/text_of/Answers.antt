-- `questions::text::text_of` meets its contract.
use Rattle.std.specs.Prelude.{◌≡◌, ℕ, List}
use mathlib.Core.Path.{refl, sym, ap, ◌∙◌}
use Rattle.std.proofs.lemmas.Result.{err_from_is_err_and}
use Rattle.drawing.specs.declared.TextAnswer.{TextAnswer}
use Rattle.drawing.specs.Questions.{or_refusal, no_text, text_part, text_places}
use Rattle.drawing.specs.Computed.{text_value, text_answer}
use Rattle.drawing.specs.Table.{start_in}
use Rattle.questions.specs.Asking.{AskedRow}
use Rattle.questions.specs.TextQuestion.{has_text}
use Rattle.questions.specs.TextLaws.{answered, latex_holds, chars_inside, text-answered}
use Rattle.questions.specs.RowQuestions.{asked_part, refused_row, of-row, body-there, short-there}
use Rattle.questions.proofs.text.text_of.Goals as goal

-- What is answered of the row that was found is the answer of the question.
given : {cs ws : List ℕ} {row : ℕ} {cs' ws' : List ℕ} {v r : ℕ} (it : AskedRow cs ws row cs' ws' v r) {x : TextAnswer} → x ≡ answered cs' ws' v r it.asked.object → x ≡ text_answer cs ws row
given {cs} {ws} {row} it {x} is =
    of-row (λ cs ws v r. x ≡ answered cs ws v r it.asked.object) it is
    ∙ ap (λ v. text_value (text_places (start_in cs row) v (or_refusal 7 (text_part v it.asked.object)))) it.asked.version-is
    ∙ sym (asked_part (λ d. text_part d.version) (λ d x. text_value (text_places (start_in cs row) d.version x)) (λ n. text_value (no_text n)) it.asked)

pub returns-in_err-row : goal.returns-in_err-row
returns-in_err-row c =
    let p = err_from_is_err_and c.from_residual.result c.from_residual.ensures.1 in
    rw (p.1, p.2) (refused_row (λ d. text_part d.version) (λ d x. text_value (text_places (start_in c.args.contents.now c.args.row) d.version x)) (λ n. text_value (no_text n)) (λ d n. refl) c.args.contents.now c.args.words.now c.args.row c.in_err-row.field-0.0 c.in_err-row.ensures)

pub alternative_chars-alternative-requires : goal.alternative_chars-alternative-requires
alternative_chars-alternative-requires c =
    let row = c.in_ok-row.row in
    let it = c.in_ok-row.ensures in
    latex_holds row.contents.now row.words.now row.version row.row c.text_places-places.ensures it.asked.object (body-there it) (ap has_text (sym c.kind.ensures) ∙ sym c.has_text.ensures ∙ c.if-has_text.true) (short-there it)

pub chars_at-requires : goal.chars_at-requires
chars_at-requires c =
    let row = c.in_ok-row.row in
    let it = c.in_ok-row.ensures in
    (chars_inside row.contents.now row.words.now row.version row.row c.text_places-places.ensures it.asked.object (body-there it) (ap has_text (sym c.kind.ensures) ∙ sym c.has_text.ensures ∙ c.if-has_text.true), short-there it)

pub returns-then-has_text : goal.returns-then-has_text
returns-then-has_text c =
    let row = c.in_ok-row.row in
    let it = c.in_ok-row.ensures in
    given it (text-answered row.contents.now row.words.now row.version row.row c.text_places-places.ensures it.asked.object (body-there it) (ap has_text (sym c.kind.ensures) ∙ sym c.has_text.ensures ∙ c.if-has_text.true) c.alternative_chars-alternative.ensures c.chars_at.ensures)
