-- `questions::description::description` meets its contract.
use mir.Syntax.{w32}
use mathlib.Core.Path.{refl, sym, ap, ◌∙◌}
use Rattle.format.specs.LeafLaws.{known_below}
use Rattle.drawing.specs.Questions.{part, no_description, description_part, description_place}
use Rattle.drawing.specs.Table.{end_in}
use Rattle.drawing.specs.Order.{description_of}
use Rattle.promises.proofs.PromiseLaws.{descriptions}
use Rattle.questions.specs.DescriptionQuestion.{DescriptionStands}
use Rattle.questions.specs.RowQuestions.{asked_part, refused_row, of-row}
use Rattle.questions.proofs.description.description.Goals as goal

pub returns-in-Ok : goal.returns-in-Ok
returns-in-Ok c =
    let it = c.in-Ok.ensures in
    descriptions (known_below w32 c.args.words.now c.type_inv.words)
    (of-row (λ cs ws v r. DescriptionStands cs ws v r c.description_of.result) it c.description_of.ensures it.asked.object it.asked.body
    ∙ ap (λ v. description_place v (end_in c.args.contents.now c.args.row) (part (description_of it.asked.object))) it.asked.version-is
    ∙ sym (asked_part (λ d. description_part) (λ d x. description_place d.version (end_in c.args.contents.now c.args.row) x) no_description it.asked))

pub returns-in-Err : goal.returns-in-Err
returns-in-Err c =
    descriptions (known_below w32 c.args.words.now c.type_inv.words)
    (c.refused.ensures
    ∙ refused_row (λ d. description_part) (λ d x. description_place d.version (end_in c.args.contents.now c.args.row) x) no_description (λ d n. refl) c.args.contents.now c.args.words.now c.args.row c.in-Err.refusal c.in-Err.ensures)
