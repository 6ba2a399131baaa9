use native.Mathlib.Omega.{arith}
use Prim.Native.Nat.{◌+◌, ◌/◌, ◌^◌}
use Rattle.memory.specs.FitLaws.{run_nowhere}
use Rattle.from_file.proofs.FromFileWay.copy.Goals as goal

pub returns-else-dst-gt0 : goal.returns-else-dst-gt0
returns-else-dst-gt0 c =
    run_nowhere 256 c.args.size (2 ^ 32) ((c.args.size + 3) / 4) c.args.src.now c.args.dst.now c.args.at c.args.to c.args.count (omega (arith, c.if-dst-gt0.false))
