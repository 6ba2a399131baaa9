use mathlib.Core.Path.{◌≡◌}
use Prim.Native.Nat.{◌+◌, ◌*◌}
use Rattle.ways.specs.Way.{target_units}
use lib.ListN.{drop}
use Rattle.ways.specs.TransformationLaws.{put_doubles}
use Rattle.layout.proofs.transformation.put_transformation.Given as goal

abbrev pub invariant-loop-double : goal.invariant-loop-double
invariant-loop-double g l = (put_doubles g.W.Way.way l.double-items l.to (g.W.Way.kept l.initial.dst) ≡ put_doubles g.W.Way.way (drop l.double-index l.double-items) l.place (g.W.Way.kept l.dst)) × (l.place ≡ l.to + l.double-index * target_units g.W.Way.way 8)
