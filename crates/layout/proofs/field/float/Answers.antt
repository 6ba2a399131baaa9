use Rattle.ways.specs.Faults.{any_ranged}
use Rattle.drawing.specs.Fields as F
use Rattle.format.specs.Kind as K
use mathlib.Core.Path.{refl}
use Rattle.layout.proofs.field.float.Goals as goal

pub returns : goal.returns
returns g c = c.ranged.ensures.asks F.float (any_ranged K.float 4 4294967295 6 refl refl refl)
