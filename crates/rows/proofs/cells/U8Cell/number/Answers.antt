use Rattle.std.proofs.Common.{sym, ◌∙◌, arith}
use Rattle.format.specs.PackedLaws.{length-unpacked, unpacked-at}
use Rattle.rows.proofs.cells.U8Cell.number.Goals as goal

pub overflow_mul-place : goal.overflow_mul-place
overflow_mul-place c = omega (arith, length-unpacked 2 c.args.contents.now, c.requires)

pub char_at-requires : goal.char_at-requires
char_at-requires c = omega (arith, length-unpacked 2 c.args.contents.now, c.requires)

pub returns : goal.returns
returns c =
    c.char_at.ensures ∙ sym (unpacked-at 2 c.args.contents.now c.args.place (omega (arith, length-unpacked 2 c.args.contents.now, c.requires)))
