use Rattle.ways.specs.Carries.{Progress}
use Rattle.drawing.specs.Path.{segment}
use Rattle.format.specs.Pass.{◌⟫◌}
use Rattle.format.specs.Layout.{repeat}
use Prim.Native.Nat.{◌-◌}
use mathlib.Core.Option.{none}
use mathlib.Core.Bool.{false}
use Rattle.layout_objects.proofs.segment.segments.Given as goal

abbrev pub invariant-loop : goal.invariant-loop
invariant-loop g l = Progress (λ K. repeat l.count (segment false none) ⟫ K) (λ K. repeat (l.count - l.counter) (segment false none) ⟫ K) g.W.Way.way (g.W.Way.units l.src) (g.W.Way.kept l.initial.dst) (g.W.Way.kept l.dst) l.at l.to l.behind.at l.behind.to
