-- `extent::outline::in_text_path` meets its contract.
use mathlib.Core.Path.{subst}
use Rattle.extent.specs.ExtentQuestion.{InTextPath}
use Rattle.extent.specs.ExtentLaws.{in_text-path}
use Rattle.extent.proofs.outline.in_text_path.Goals as goal

pub returns : goal.returns
returns c =
    let row = c.args.row.now in
    subst (λ at. InTextPath row.words.now row.version at c.behind.result) c.start-start.ensures.is
    (in_text-path row.version c.behind-style.ensures.is c.behind-latex.ensures.is c.behind-chars.ensures.is c.behind.ensures.is)
