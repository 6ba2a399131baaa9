-- `questions::text_places::in_text_path` meets its contract.
use mathlib.Core.Path.{subst}
use Rattle.questions.specs.TextQuestion.{InTextPath}
use Rattle.questions.specs.TextLaws.{in_text-path}
use Rattle.questions.proofs.text_places.in_text_path.Goals as goal

pub returns : goal.returns
returns c =
    let row = c.args.row.now in
    subst (λ at. InTextPath row.words.now row.version at (record { paint = c.start-paint.result; latex = c.behind-latex.result; chars = c.behind-chars.result })) c.start-paint.ensures.is
    (in_text-path c.behind-style.ensures.is c.behind-latex.ensures.is c.behind-chars.ensures.is)
