use Prim.Native.Nat.{◌+◌, ◌-◌, ◌*◌, ◌^◌}
use Rattle.memory.specs.StoreLaws.{Storing}
use Rattle.sheets.proofs.words.copy_block.Given as goal

abbrev pub invariant-loop-pair : goal.invariant-loop-pair
invariant-loop-pair l = Storing 256 (2 ^ 32) l.sheet l.initial.bodies l.from l.to 8 2 8 (l.from + 8 * l.pair) (l.to + 2 * l.pair) (8 - l.pair) l.bodies
