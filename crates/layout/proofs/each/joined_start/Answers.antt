use Rattle.ways.specs.SegmentLaws.{joined-laid}
use Rattle.ways.specs.Segments.{end_before}
use Rattle.ways.specs.Way.{value_at}
use Prim.Native.Nat.{◌-◌, ◌*◌}
use mathlib.Core.Path.{ap, ◌∙◌}
use Rattle.layout.proofs.each.joined_start.Goals as goal

pub returns : goal.returns
returns g c =
    joined-laid (end_before g.W.Way.way (g.W.Way.units c.args.src.now) c.args.joint) (c.get-x.ensures.value.0 ∙ ap (λ w. value_at g.W.Way.way 8 (g.W.Way.units c.args.src.now) (c.args.joint - 2 * w)) c.source_units-units.ensures) (c.get-y.ensures.value.0 ∙ ap (λ w. value_at g.W.Way.way 8 (g.W.Way.units c.args.src.now) (c.args.joint - w)) c.source_units-units.ensures) c.joined-across.ensures c.joined-up.ensures
