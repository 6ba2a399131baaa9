use native.Mathlib.Omega.{arith}
use Prim.Native.Nat.{◌^◌}
use Rattle.memory.specs.FitLaws.{run_nowhere}
use Rattle.ways.specs.TableWay.{chars-small}
use Rattle.from_table.proofs.FromTableWay.copy_chars.Goals as goal

pub write_chars-requires : goal.write_chars-requires
write_chars-requires c =
    record { count_in_bounds = omega (arith, c.requires.0); small_words = chars-small 2 c.args.src.now c.args.at c.args.count c.requires.0 c.requires.1 }

pub returns-else-dst-gt0 : goal.returns-else-dst-gt0
returns-else-dst-gt0 c =
    run_nowhere (2 ^ 32) 1 256 2 c.args.src.now c.args.dst.now c.args.at c.args.to c.args.count (omega (arith, c.if-dst-gt0.false))
