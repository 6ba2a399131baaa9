use Rattle.ways.specs.Faults.{any_ranged}
use Rattle.drawing.specs.Fields as F
use Rattle.format.specs.Kind as K
use mathlib.Core.Path.{refl}
use Rattle.layout.proofs.field.integer.Goals as goal

pub returns : goal.returns
returns g c = c.ranged.ensures.asks F.integer (any_ranged K.integer 4 4294967295 6 refl refl refl)
