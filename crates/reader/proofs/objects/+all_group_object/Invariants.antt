use Prim.Native.Nat.{◌+◌, ◌-◌, ◌*◌}
use Rattle.reader.specs.MemberLaws.{Going}
use Prim.Native.Nat.{◌+◌, ◌-◌, ◌*◌}
use Rattle.reader.proofs.objects.+all_group_object.Given as goal

abbrev pub invariant-all-loop : goal.invariant-all-loop
invariant-all-loop l = Going l.file l.version l.deep l.parent l.count l.at l.first l.to l.initial.contents l.initial.bodies (l.count - l.counter) l.contents l.bodies l.reached

abbrev pub decreases-all : goal.decreases-all
decreases-all l = 3 * l.deep + 1

abbrev pub decreases-group : goal.decreases-group
decreases-group l = 3 * l.deep + 2

abbrev pub decreases-object : goal.decreases-object
decreases-object l = 3 * l.deep
