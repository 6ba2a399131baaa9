use native.Mathlib.Omega.{arith}
use Prim.Native.Nat.{◌+◌}
use mathlib.Core.List.{[], ◌∷◌}
use Rattle.memory.specs.Spelled.{spelled-behind}
use Rattle.memory.proofs.write.put_four.Goals as goal

pub returns : goal.returns
returns c =
    let out = c.args.out.now in
    let to = c.args.to in
    let two = spelled-behind 256 2 (c.args.a ∷ []) (c.args.b ∷ []) to out {next = to + 2} (omega arith) (omega (arith, c.requires.0)) c.put_char.ensures c.put_char-2.ensures in
    let three = spelled-behind 256 2 (c.args.a ∷ c.args.b ∷ []) (c.args.c ∷ []) to out {next = to + 4} (omega arith) (omega (arith, c.requires.0)) two c.put_char-3.ensures in
    spelled-behind 256 2 (c.args.a ∷ c.args.b ∷ c.args.c ∷ []) (c.args.d ∷ []) to out {next = to + 6} (omega arith) (omega (arith, c.requires.0)) three c.put_char-4.ensures
