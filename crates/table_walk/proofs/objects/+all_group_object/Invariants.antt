use Rattle.walks.specs.MemberWalkLaws.{Going}
use Prim.Native.Nat.{◌+◌, ◌-◌, ◌*◌}
use Rattle.table_walk.proofs.objects.+all_group_object.Given as goal

abbrev pub invariant-all-loop : goal.invariant-all-loop
invariant-all-loop g l = Going l.version l.deep l.parent l.count (g.C.Cell.cells l.contents) (g.W.Way.units l.words) l.initial.out l.at l.to l.first (l.count - l.counter) l.out l.reached

abbrev pub decreases-all : goal.decreases-all
decreases-all g l = 3 * l.deep + 1

abbrev pub decreases-group : goal.decreases-group
decreases-group g l = 3 * l.deep + 2

abbrev pub decreases-object : goal.decreases-object
decreases-object g l = 3 * l.deep
