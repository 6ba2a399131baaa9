use Rattle.ways.specs.FieldPassLaws.{seen, seen_asked}
use Rattle.ways.specs.StepLaws.{not_there}
use Rattle.ways.specs.Faults.{wide_fault}
use Rattle.drawing.specs.Fields as F
use native.Mathlib.Omega.{arith}
use mathlib.Core.Path.{refl}
use Rattle.layout.proofs.field.marker_id.Goals as goal

pub returns-then-there : goal.returns-then-there
returns-then-there g c =
    let kind = F.marker_id c.args.high c.args.more in
    let judges = wide_fault g.W.Way.way kind c.get-id.ensures.value.1 refl (omega arith) c.byte_fault-fault.ensures in
    seen_asked (seen kind refl refl c.requires c.there.ensures.fits c.if-there.true c.get-id.ensures.value judges) c.kept.ensures.0

pub returns : goal.returns
returns g c =
    not_there c.requires (F.marker_id c.args.high c.args.more) refl c.there.ensures.fits c.if-there.false c.cut.ensures.0
