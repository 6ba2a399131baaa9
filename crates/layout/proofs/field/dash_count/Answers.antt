use Rattle.ways.specs.FieldPassLaws.{seen, seen_asked}
use Rattle.ways.specs.StepLaws.{not_there}
use Rattle.ways.specs.Faults.{own_fault}
use Rattle.drawing.specs.Fields as F
use native.Mathlib.Omega.{arith}
use mathlib.Core.Path.{refl}
use Rattle.layout.proofs.field.dash_count.Goals as goal

pub returns-then-there : goal.returns-then-there
returns-then-there g c =
    let judges = own_fault F.dash_count c.get-word.result g.W.Way.way (omega (arith, g.met.W.Way.word, c.get-word.ensures.value.1)) c.get-word.ensures.value.1 c.dash_fault.ensures in
    (seen_asked (seen F.dash_count refl refl c.requires c.there.ensures.fits c.if-there.true c.get-word.ensures.value judges) c.kept.ensures.0, omega (arith, g.met.W.Way.word, c.get-word.ensures.value.1, c.kept.ensures.1))

pub returns : goal.returns
returns g c =
    (not_there c.requires F.dash_count refl c.there.ensures.fits c.if-there.false c.cut.ensures.0, omega (arith, c.cut.ensures.1))
