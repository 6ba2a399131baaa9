use Rattle.ways.specs.Faults.{byte_ranged}
use Rattle.drawing.specs.Fields as F
use Rattle.layout.proofs.field.byte.Goals as goal

pub returns : goal.returns
returns g c =
    c.ranged.ensures.asks (F.byte_in c.args.low c.args.high) (byte_ranged c.args.low c.args.high c.requires.high_bound)
