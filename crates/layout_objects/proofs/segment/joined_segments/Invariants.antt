use Rattle.ways.specs.Carries.{Progress}
use Rattle.ways.specs.Passes.{refused}
use Rattle.ways.specs.Segments.{segments_of, before}
use Rattle.ways.specs.Way.{source_units}
use Rattle.format.specs.Pass.{◌⟫◌}
use Prim.Native.Nat.{◌-◌, ◌*◌, ◌<◌, ◌≤◌}
use mathlib.Core.Option.{none}
use mathlib.Core.Bool.{true, false}
use mathlib.Core.Path.{◌≡◌}
use Rattle.layout_objects.proofs.segment.joined_segments.Given as goal

abbrev pub invariant-loop : goal.invariant-loop
invariant-loop g l = Progress (λ K. segments_of true l.count none ⟫ K) (λ K. segments_of true (l.count - l.counter) (before g.W.Way.way l.first (g.W.Way.units l.src) l.behind.at) ⟫ K) g.W.Way.way (g.W.Way.units l.src) (g.W.Way.kept l.initial.dst) (g.W.Way.kept l.dst) l.at l.to l.behind.at l.behind.to × (l.first ≡ false → l.behind.at < refused → 2 * source_units g.W.Way.way 8 ≤ l.behind.at)
