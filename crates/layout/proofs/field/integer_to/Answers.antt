use Rattle.ways.specs.Faults.{integer_ranged}
use Rattle.drawing.specs.Fields as F
use Rattle.layout.proofs.field.integer_to.Goals as goal

pub returns : goal.returns
returns g c = c.ranged.ensures.asks (F.integer_in 0 c.args.high) (integer_ranged c.args.high c.requires.high_bound)
