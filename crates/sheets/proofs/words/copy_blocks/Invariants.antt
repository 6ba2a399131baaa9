use Prim.Native.Nat.{◌+◌, ◌-◌, ◌*◌, ◌^◌}
use Rattle.memory.specs.StoreLaws.{Storing}
use Rattle.sheets.proofs.words.copy_blocks.Given as goal

abbrev pub invariant-loop-block : goal.invariant-loop-block
invariant-loop-block l = Storing 256 (2 ^ 32) l.sheet l.initial.bodies l.from l.to 4 1 l.count (l.from + 64 * l.block) (l.to + 16 * l.block) (l.count - 16 * l.block) l.bodies
