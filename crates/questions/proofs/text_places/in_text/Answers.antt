-- `questions::text_places::in_text` meets its contract.
use mathlib.Core.Path.{subst}
use Rattle.questions.specs.TextQuestion.{InText}
use Rattle.questions.specs.TextLaws.{in_text}
use Rattle.questions.proofs.text_places.in_text.Goals as goal

pub returns : goal.returns
returns c =
    let row = c.args.row.now in
    subst (λ at. InText row.words.now row.version at (record { paint = c.behind-paint.result; latex = c.behind-latex.result; chars = c.behind-chars.result })) c.start-start.ensures.is
    (in_text c.behind-latex.ensures.is c.behind-paint.ensures.is c.behind-chars.ensures.is)
