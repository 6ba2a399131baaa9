use Rattle.ways.specs.FieldPassLaws.{joined_ranged}
use Rattle.drawing.specs.Fields as F
use native.Mathlib.Omega.{arith}
use Rattle.layout.proofs.field.joined.Goals as goal

pub returns : goal.returns
returns g c = c.ranged.ensures.asks (F.joined c.args.bits) (joined_ranged c.args.bits (omega arith))
