use Rattle.ways.specs.Moves.{Moved}
use Prim.Native.Nat.{◌*◌}
use Rattle.layout.proofs.group.keep_points.Given as goal

abbrev pub invariant-loop : goal.invariant-loop
invariant-loop g l = Moved g.W.Way.way 8 (2 * l.counter) (g.W.Way.units l.src) (g.W.Way.kept l.initial.dst) (g.W.Way.kept l.dst) l.at l.to l.behind
