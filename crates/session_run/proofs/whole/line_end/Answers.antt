use Rattle.session_run.specs.Wholes.{laid-whole}
use Rattle.pieces.specs.PartBounds.{line_end_7}
use Rattle.pieces.specs.LeafLaws as L
use Rattle.ways.specs.LayoutLaws.{valued-laid, ◌⨾◌}
use native.Mathlib.Omega.{arith}
use Rattle.session_run.proofs.whole.line_end.Goals as goal

pub returns : goal.returns
returns c =
    laid-whole L.line_end line_end_7 (omega arith) (omega arith) c.args.here.inside (valued-laid c.byte-cap.ensures ⨾ c.join_end.ensures)
