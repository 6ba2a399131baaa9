use native.Mathlib.Omega.{arith}
use Prim.Native.Nat.{◌+◌, ◌/◌, ◌^◌}
use Rattle.memory.specs.FitLaws.{run_nowhere}
use Rattle.ways.specs.TableWay.{chars-small}
use Rattle.from_table.proofs.FromTableWay.copy.Goals as goal

pub write_run-requires : goal.write_run-requires
write_run-requires c =
    record { size_value = (c.requires.0, c.requires.1); small_words = chars-small c.args.size c.args.src.now c.args.at c.args.count c.requires.1 c.requires.2 }

pub returns-else-dst-gt0 : goal.returns-else-dst-gt0
returns-else-dst-gt0 c =
    run_nowhere (2 ^ 32) ((c.args.size + 3) / 4) 256 c.args.size c.args.src.now c.args.dst.now c.args.at c.args.to c.args.count (omega (arith, c.if-dst-gt0.false))
