use Rattle.ways.specs.LayoutLaws.{valued-laid, came_on, one_of, none_of}
use Rattle.drawing.specs.Fields as F
use Rattle.format.specs.Layout.{field}
use native.Mathlib.Omega.{arith}
use Prim.Native.Nat.{◌+◌, ◌-◌}
use mathlib.Core.Path.{◌≡◌}
use Rattle.layout.proofs.each.each_component.Goals as goal

pub loop-preserved : goal.loop-preserved
loop-preserved g c =
    let rest : c.args.count - c.loop.counter - 1 ≡ c.args.count - (c.loop.counter + 1) = omega arith in
    rw (← rest) (came_on c.loop.invariant (one_of (field F.component) (c.args.count - c.loop.counter) (omega (arith, c.loop-test.true)) (valued-laid c.component-taken.ensures)))

pub returns : goal.returns
returns g c =
    let came = c.loop.invariant in
    record { carried = came_on came (none_of (field F.component) (c.args.count - c.loop.counter) (λ h. omega (arith, h, c.loop-test.false)) came.ready) }
