use Rattle.from_sheet.specs.Way.{way, units}
use Rattle.ways.specs.Way.{source_units}
use Rattle.memory.specs.StoreLaws.{Storing}
use Prim.Native.Nat.{◌+◌, ◌-◌, ◌*◌, ◌^◌}
use Rattle.from_sheet.proofs.copy_fields.Given as goal

abbrev pub invariant-loop-i : goal.invariant-loop-i
invariant-loop-i l = Storing (2 ^ 32) 256 (units l.src) l.initial.dst l.at l.to (source_units way l.size) l.size l.count (l.at + l.i * source_units way l.size) (l.to + l.i * l.size) (l.count - l.i) l.dst
