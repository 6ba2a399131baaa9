use Rattle.format.specs.PackedLaws.{length-unpacked, unpacked-at}
use mathlib.Core.Path.{sym, ◌∙◌}
use native.Mathlib.Omega.{arith}
use Rattle.from_sheet.proofs.word_in.Goals as goal

pub overflow_mul-at : goal.overflow_mul-at
overflow_mul-at c = omega (arith, length-unpacked 4 c.args.src.now, c.requires)

pub word_at-requires : goal.word_at-requires
word_at-requires c = omega (arith, length-unpacked 4 c.args.src.now, c.requires)

pub returns : goal.returns
returns c =
    c.word_at.ensures ∙ sym (unpacked-at 4 c.args.src.now c.args.at (omega (arith, length-unpacked 4 c.args.src.now, c.requires)))
