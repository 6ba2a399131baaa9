use Rattle.session_run.specs.Wholes.{laid-whole, any-double}
use Rattle.pieces.specs.PartBounds.{face_54}
use Rattle.ways.specs.TextLaws as T
use Rattle.ways.specs.LayoutLaws.{valued-laid, ◌⨾◌}
use Rattle.drawing.specs.Fields as F
use native.Mathlib.Omega.{arith}
use Rattle.session_run.proofs.whole.face.Goals as goal

pub returns : goal.returns
returns c =
    laid-whole T.face face_54 (omega arith) (omega arith) c.args.here.inside (valued-laid c.byte-shape.ensures ⨾ valued-laid c.byte-series.ensures ⨾ valued-laid c.font_size-size.ensures ⨾ valued-laid (c.run.ensures.values F.double any-double))
