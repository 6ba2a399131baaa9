use Rattle.ways.specs.Moves.{AllAllowed}
use Rattle.drawing.specs.Fields as F
use Rattle.layout_styles.proofs.paint.all_components.Given as goal

abbrev pub invariant-loop-i : goal.invariant-loop-i
invariant-loop-i g l = AllAllowed g.W.Way.way F.component 4 l.i (g.W.Way.units l.src) l.from
