-- `format::decode::word_at` meets its contract: two parts of two bytes. Assumes nothing.
use native.Mathlib.Omega.{arith}
use Rattle.format.specs.LeafLaws.{Parts, byte_parts}
-- The parts are the field, and it fits.
use Rattle.format.proofs.decode.word_at.Goals as goal

parts : (c : goal.After-char_at-second)
    → Parts 256 c.args.file.now c.args.at 2 2
parts c =
    byte_parts c.args.file.now c.args.at 2 2 c.type_inv.file c.requires

pub returns : goal.returns
returns c = omega (arith, parts c)

pub overflow_mul-result : goal.overflow_mul-result
overflow_mul-result c = omega (arith, parts c)

pub overflow_add-result : goal.overflow_add-result
overflow_add-result c = omega (arith, parts c)
