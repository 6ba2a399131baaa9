-- `extent::outline::in_path` meets its contract.
use mathlib.Core.Path.{subst}
use Rattle.extent.specs.ExtentQuestion.{InPath}
use Rattle.extent.specs.ExtentLaws.{in_path}
use Rattle.extent.proofs.outline.in_path.Goals as goal

pub returns : goal.returns
returns c =
    let row = c.args.row.now in
    subst (λ at. InPath row.words.now row.version at c.behind.result) c.start-start.ensures.is (in_path row.version c.behind-fill.ensures.is c.behind-style.ensures.is c.behind.ensures.is)
