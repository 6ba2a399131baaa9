-- `format::decode::byte_at` meets its contract: a field of one byte is the byte. Assumes nothing.
use mathlib.Core.Path.{sym}
use native.Mathlib.Omega.{arith}
use Rattle.format.specs.LeafLaws.{field-one}
use Rattle.format.proofs.decode.byte_at.Goals as goal

pub returns : goal.returns
returns c = sym (field-one 256 c.args.file.now c.args.at c.requires)

pub overflow_cast-result : goal.overflow_cast-result
overflow_cast-result c = omega (arith, c.type_inv.file c.args.at)
