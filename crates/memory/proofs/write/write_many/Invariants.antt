use Rattle.std.specs.Prelude.{◌+◌, ◌-◌, ◌*◌, ◌^◌}
use Rattle.memory.specs.StoreLaws.{Storing}
use Rattle.memory.proofs.write.write_many.Given as goal

abbrev pub invariant-loop-i : goal.invariant-loop-i
invariant-loop-i l = Storing (2 ^ 32) 256 l.words l.initial.out l.from l.to 1 2 l.count (l.from + 8 * l.i) (l.to + 16 * l.i) (l.count - 8 * l.i) l.out
