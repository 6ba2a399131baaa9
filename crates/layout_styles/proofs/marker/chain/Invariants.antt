use Rattle.ways.specs.Carries.{Progress}
use Rattle.drawing.specs.MarkerChain.{chain, markers}
use Rattle.drawing.specs.Marker.{last_marker}
use Rattle.format.specs.Pass.{◌⟫◌}
use Prim.Native.Nat.{◌-◌}
use mathlib.Core.Path.{◌≡◌}
use Rattle.layout_styles.proofs.marker.chain.Given as goal

abbrev pub invariant-loop : goal.invariant-loop
invariant-loop g l = Progress (λ K. markers l.version ⟫ K) (λ K. chain l.version (4 - l.counter) ⟫ K) g.W.Way.way (g.W.Way.units l.src) (g.W.Way.kept l.initial.dst) (g.W.Way.kept l.dst) l.at l.to l.behind.at l.behind.to × (l.high ≡ last_marker l.version)
