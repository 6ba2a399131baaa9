use mir.Syntax.{w8}
use Rattle.format.specs.PackedLaws.{length-unpacked, unpacked-at}
use Rattle.format.specs.LeafLaws.{known_below, field-add, field_below}
use lib.ListN.{length}
use Prim.Native.Nat.{◌+◌, ◌*◌, ◌≤◌}
use mathlib.Core.Path.{◌∙◌}
use native.Mathlib.Omega.{arith}
use Rattle.from_sheet.proofs.exchanged_word_in.Goals as goal

pub overflow_mul-place : goal.overflow_mul-place
overflow_mul-place c = omega (arith, length-unpacked 4 c.args.src.now, c.requires)

pub exchanged_char_at-first-requires : goal.exchanged_char_at-first-requires
exchanged_char_at-first-requires c = omega (arith, length-unpacked 4 c.args.src.now, c.requires)

pub overflow_add-place : goal.overflow_add-place
overflow_add-place c = omega (arith, length-unpacked 4 c.args.src.now, c.requires)

pub exchanged_char_at-second-requires : goal.exchanged_char_at-second-requires
exchanged_char_at-second-requires c = omega (arith, length-unpacked 4 c.args.src.now, c.requires)

pub returns : goal.returns
returns c =
    let us = c.args.src.now in let inside : 4 * c.args.at + (2 + 2) ≤ length us = omega (arith, length-unpacked 4 us, c.requires) in let word = unpacked-at 4 us c.args.at (omega (arith, length-unpacked 4 us, c.requires)) ∙ field-add 256 us (4 * c.args.at) 2 2 inside in let low = field_below 256 us (4 * c.args.at + 2) 2 (omega (arith, inside)) (known_below w8 us c.type_inv.src) in record { char = λ zero_is. omega (arith, word, low, zero_is, c.exchanged_char_at-first.ensures.0, c.exchanged_char_at-first.ensures.1, c.exchanged_char_at-second.ensures.0); other = λ some. omega (arith, word, some, c.exchanged_char_at-first.ensures.0, c.exchanged_char_at-first.ensures.1, c.exchanged_char_at-second.ensures.1) }
