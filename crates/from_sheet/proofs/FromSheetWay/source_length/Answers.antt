use Rattle.format.specs.PackedLaws.{length-unpacked}
use mathlib.Core.Path.{sym}
use Rattle.from_sheet.proofs.FromSheetWay.source_length.Goals as goal

pub returns : goal.returns
returns c = sym (length-unpacked 4 c.args.src.now)
