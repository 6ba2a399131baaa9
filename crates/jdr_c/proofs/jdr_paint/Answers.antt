-- `jdr_c::jdr_paint` meets its contract: what is asked is given as C has it.
use mathlib.Core.Path.{ap, ◌∙◌}
use Rattle.drawing.specs.Questions.{paint_given}
use Rattle.format.specs.LeafLaws.{known_below}
use mir.Syntax.{w32}
use Rattle.jdr_c.specs.Values.{paint_struct}
use Rattle.jdr_c.specs.ValueLaws.{paints_for_c}
use Rattle.jdr_c.proofs.jdr_paint.Goals as goal

pub returns : goal.returns
returns c =
    paints_for_c (known_below w32 c.args.bodies.now c.type_inv.bodies)
    (c.given.ensures ∙ ap (λ a. paint_struct (paint_given a)) c.asked.ensures)
