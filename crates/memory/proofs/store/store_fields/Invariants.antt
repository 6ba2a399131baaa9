use Rattle.std.specs.Prelude.{◌+◌, ◌-◌, ◌*◌, ◌^◌}
use Rattle.memory.specs.StoreLaws.{Storing}
use Rattle.memory.proofs.store.store_fields.Given as goal

abbrev pub invariant-loop-i : goal.invariant-loop-i
invariant-loop-i l = Storing 256 (2 ^ 32) l.file l.initial.bodies l.from l.to l.size 1 l.count (l.from + l.i * l.size) (l.to + l.i) (l.count - l.i) l.bodies
