use Rattle.std.specs.Prelude.{◌+◌, ◌-◌, ◌*◌, ◌^◌}
use Rattle.memory.specs.StoreLaws.{Storing}
use Rattle.memory.proofs.write.write_fields.Given as goal

abbrev pub invariant-loop-i : goal.invariant-loop-i
invariant-loop-i l = Storing (2 ^ 32) 256 l.words l.initial.out l.from l.to 1 l.size l.count (l.from + l.i) (l.to + l.i * l.size) (l.count - l.i) l.out
