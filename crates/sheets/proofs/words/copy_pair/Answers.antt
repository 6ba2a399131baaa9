use Prim.Native.Nat.{◌^◌}
use mathlib.Core.Path.{◌≡◌, ap, ◌∙◌}
use native.Mathlib.Omega.{arith}
use lib.ListN.{take, drop}
use Rattle.format.specs.Digits.{number, digits}
use Rattle.format.specs.DigitsLaws.{length_digits}
use Rattle.format.specs.Pass.{splice}
use Rattle.format.specs.PassLaws.{put-fits}
use Rattle.memory.specs.ValueLaws.{put-halves}
use Rattle.sheets.specs.CopyingLaws.{pair_exchanged}
use Rattle.sheets.proofs.words.copy_pair.Goals as goal

pub returns : goal.returns
returns c =
    let low = c.low in
    let high = c.high in
    let pair = c.exchanged_pair-pair in
    let loaded = c.exchanged_pair_at in
    let sheet = c.args.sheet.now in
    let bodies = c.args.bodies.now in
    let from = c.args.from in
    let to = c.args.to in
    let double : pair.result ≡ number 256 (take 8 (drop from sheet)) =
    pair.ensures ∙ pair_exchanged sheet from c.requires.0 loaded.result loaded.ensures.result_value loaded.ensures.result_value_2 in
    put-halves bodies to pair.result high.result low.result c.requires.1 (omega (arith, high.type_inv)) (omega (arith, low.type_inv)) high.ensures low.ensures
    ∙ put-fits to (digits (2 ^ 32) 2 pair.result) bodies (omega (arith, c.requires.1, length_digits (2 ^ 32) 2 pair.result))
    ∙ ap (λ v. splice to (digits (2 ^ 32) 2 v) bodies) double
