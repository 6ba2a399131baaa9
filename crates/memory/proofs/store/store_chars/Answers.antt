use Prim.Native.Nat.{◌^◌}
use Rattle.memory.specs.FitLaws.{run-stored}
use Rattle.memory.proofs.store.store_chars.Goals as goal

pub returns : goal.returns
returns c =
    run-stored 256 2 (2 ^ 32) 1 c.args.file.now c.args.bodies.now c.args.from c.args.to c.fitting-n.ensures c.store_fields.ensures
