use native.Mathlib.Omega.{arith}
use Prim.Native.Nat.{◌+◌, ◌^◌}
use lib.ListN.{get_or}
use mathlib.Core.List.{[], ◌∷◌}
use mathlib.Core.Path.{ap, ◌∙◌}
use Rattle.format.specs.Pass.{splice}
use Rattle.memory.specs.Spelled.{spelled-behind, eight_words}
use Rattle.memory.proofs.write.write_eight.Goals as goal

pub returns : goal.returns
returns c =
    let us = c.args.words.now in
    let out = c.args.out.now in
    let at = c.args.at in
    let to = c.args.to in
    spelled-behind 256 2 (get_or us at 0 ∷ get_or us (at + 1) 0 ∷ get_or us (at + 2) 0 ∷ get_or us (at + 3) 0 ∷ []) (get_or us (at + 4) 0 ∷ get_or us (at + 5) 0 ∷ get_or us (at + 6) 0 ∷ get_or us (at + 7) 0 ∷ []) to out {next = to + 8} (omega arith) (omega (arith, c.requires.1)) c.put_four.ensures c.put_four-2.ensures ∙ ap (λ ws. splice to ws out) (eight_words (2 ^ 32) 256 2 us at c.requires.0)
