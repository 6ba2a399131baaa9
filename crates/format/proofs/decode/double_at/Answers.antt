-- `format::decode::double_at` meets its contract: four parts of two bytes. Assumes nothing.
use native.Mathlib.Omega.{arith}
use Rattle.format.specs.LeafLaws.{Parts, byte_parts}
-- The parts are the field, and it fits.
use Rattle.format.proofs.decode.double_at.Goals as goal

parts : (c : goal.After-char_at-fourth)
    → Parts 256 c.args.file.now c.args.at 2 4
parts c =
    byte_parts c.args.file.now c.args.at 2 4 c.type_inv.file c.requires

pub returns : goal.returns
returns c = omega (arith, parts c)

pub overflow_mul-result : goal.overflow_mul-result
overflow_mul-result c = omega (arith, parts c)

pub overflow_add-result : goal.overflow_add-result
overflow_add-result c = omega (arith, parts c)

pub overflow_add-result-2 : goal.overflow_add-result-2
overflow_add-result-2 c = omega (arith, parts c)

pub overflow_add-result-3 : goal.overflow_add-result-3
overflow_add-result-3 c = omega (arith, parts c)
