use Rattle.ways.specs.Carries.{Progress}
use Rattle.drawing.specs.Fields as F
use Rattle.format.specs.Pass.{◌⟫◌}
use Rattle.format.specs.Layout.{repeat, field}
use Prim.Native.Nat.{◌-◌}
use Rattle.layout.proofs.each.each_component.Given as goal

abbrev pub invariant-loop : goal.invariant-loop
invariant-loop g l = Progress (λ K. repeat l.count (field F.component) ⟫ K) (λ K. repeat (l.count - l.counter) (field F.component) ⟫ K) g.W.Way.way (g.W.Way.units l.src) (g.W.Way.kept l.initial.dst) (g.W.Way.kept l.dst) l.at l.to l.behind.at l.behind.to
