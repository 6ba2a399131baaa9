use Prim.Native.Nat.{◌^◌}
use Rattle.memory.specs.FitLaws.{run-stored}
use Rattle.memory.proofs.write.write_chars.Goals as goal

pub returns-then-n-lt8 : goal.returns-then-n-lt8
returns-then-n-lt8 c =
    run-stored (2 ^ 32) 1 256 2 c.args.words.now c.args.out.now c.args.from c.args.to c.fitting-n.ensures c.write_fields.ensures

pub returns : goal.returns
returns c =
    run-stored (2 ^ 32) 1 256 2 c.args.words.now c.args.out.now c.args.from c.args.to c.fitting-n.ensures c.write_many.ensures
