-- `sheets::read::read` meets its contract.
use Rattle.sheets.specs.ReadingLaws.{no_sheet_lem}
use Rattle.format.specs.LeafLaws.{known_below}
use mir.Syntax.{w8}
use Rattle.sheets.proofs.read.read.Goals as goal

pub returns-in-None : goal.returns-in-None
returns-in-None c =
    no_sheet_lem c.args.sheet.now c.args.contents.now c.args.bodies.now (known_below w8 c.args.sheet.now c.type_inv.sheet) c.in-None.ensures c.refused.ensures
