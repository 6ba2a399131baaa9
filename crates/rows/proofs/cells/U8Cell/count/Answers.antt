use Rattle.std.proofs.Common.{sym}
use Rattle.format.specs.PackedLaws.{length-unpacked}
use Rattle.rows.proofs.cells.U8Cell.count.Goals as goal

pub returns : goal.returns
returns c = sym (length-unpacked 2 c.args.contents.now)
