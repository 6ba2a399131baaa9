use Rattle.ways.specs.FieldPassLaws.{shade_kind, seen, seen_asked}
use Rattle.ways.specs.StepLaws.{not_there}
use Rattle.ways.specs.Faults.{own_fault}
use native.Mathlib.Omega.{arith}
use mathlib.Core.Path.{refl}
use Rattle.layout.proofs.field.shade.Goals as goal

pub returns-then-there : goal.returns-then-there
returns-then-there g c =
    let kind = shade_kind c.args.hue in
    let judges = own_fault kind c.get-bits.result g.W.Way.way (omega (arith, g.met.W.Way.word, c.get-bits.ensures.value.1)) c.get-bits.ensures.value.1 c.shade_fault.ensures in
    seen_asked (seen kind refl refl c.requires c.there.ensures.fits c.if-there.true c.get-bits.ensures.value judges) c.kept.ensures.0

pub returns : goal.returns
returns g c = not_there c.requires (shade_kind c.args.hue) refl c.there.ensures.fits c.if-there.false c.cut.ensures.0
