-- `questions::paint::paint` meets its contract.
use mir.Syntax.{w32}
use mathlib.Core.Path.{◌∙◌}
use Rattle.format.specs.LeafLaws.{known_below}
use Rattle.promises.proofs.PromiseLaws.{paints}
use Rattle.questions.proofs.paint.paint.Goals as goal

pub returns-in-Ok : goal.returns-in-Ok
returns-in-Ok c = paints (known_below w32 c.args.words.now c.type_inv.words) c.in-Ok.ensures

pub returns-in-Err : goal.returns-in-Err
returns-in-Err c = paints (known_below w32 c.args.words.now c.type_inv.words) (c.refused.ensures ∙ c.in-Err.ensures)
