use Rattle.session_run.specs.Wholes.{laid-whole}
use Rattle.pieces.specs.PartBounds.{joined_16}
use Rattle.ways.specs.LayoutLaws.{valued-laid, ◌⨾◌}
use Rattle.drawing.specs.Fields as F
use Rattle.format.specs.Layout.{field, ◌&◌}
use native.Mathlib.Omega.{arith}
use Rattle.session_run.proofs.whole.joined_start.Goals as goal

pub returns : goal.returns
returns c =
    laid-whole (field (F.joined c.args.x) & field (F.joined c.args.y)) (joined_16 c.args.x c.args.y) (omega arith) (omega arith) c.args.here.inside (valued-laid c.joined-across.ensures ⨾ valued-laid c.joined.ensures)
