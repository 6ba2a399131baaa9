use Rattle.from_sheet.specs.Way.{way, units, units_below}
use Rattle.ways.specs.Way.{value_at}
use Rattle.ways.specs.StepLaws.{there_below}
use Rattle.memory.specs.SizeLaws.{field-size}
use Rattle.memory.specs.WordLaws.{one_word, two-words}
use Rattle.format.specs.PackedLaws.{length-unpacked}
use Rattle.format.specs.Digits.{number}
use Prim.Native.Nat.{◌^◌}
use mathlib.Core.List.{[], ◌∷◌}
use mathlib.Core.Path.{◌≡◌, ap₂, ◌∙◌}
use native.Mathlib.Omega.{arith}
use Rattle.from_sheet.proofs.FromSheetWay.get.Goals as goal

pub word_in-requires : goal.word_in-requires
word_in-requires c = let sizes = field-size c.args.size c.requires.0 in omega (arith, sizes.0, c.requires.1)

pub returns-then-size-le4 : goal.returns-then-size-le4
returns-then-size-le4 c =
    let us = units c.args.src.now in let sizes = field-size c.args.size c.requires.0 in let value : c.word_in.result ≡ value_at way c.args.size us c.args.at = c.word_in.ensures ∙ one_word us c.args.at c.args.size c.requires.1 sizes.0 c.if-size-le4.true in record { value = (value, rw value (there_below way us c.args.at c.args.size (units_below c.args.src.now c.type_inv.src) c.requires.1).small); below = units_below c.args.src.now c.type_inv.src }

pub overflow_add-at : goal.overflow_add-at
overflow_add-at c = omega (arith, c.requires.1, c.if-size-le4.false, length-unpacked 4 c.args.src.now)

pub returns : goal.returns
returns c =
    let us = units c.args.src.now in let sizes = field-size c.args.size c.requires.0 in let value : c.from_halves.result ≡ value_at way c.args.size us c.args.at = two-words us c.args.at c.args.size c.requires.1 c.from_halves.result c.if-size-le4.false sizes.1 (c.from_halves.ensures ∙ ap₂ (λ a b. number (2 ^ 32) (a ∷ b ∷ [])) c.word_in-2.ensures c.word_in-3.ensures) in record { value = (value, rw value (there_below way us c.args.at c.args.size (units_below c.args.src.now c.type_inv.src) c.requires.1).small); below = units_below c.args.src.now c.type_inv.src }
