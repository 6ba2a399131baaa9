use Rattle.session_run.specs.Wholes.{laid-whole}
use Rattle.pieces.specs.PartBounds.{alignment_2}
use Rattle.pieces.specs.LeafLaws as L
use Rattle.ways.specs.LayoutLaws.{valued-laid, ◌⨾◌}
use native.Mathlib.Omega.{arith}
use Rattle.session_run.proofs.whole.alignment.Goals as goal

pub returns : goal.returns
returns c =
    laid-whole L.alignment alignment_2 (omega arith) (omega arith) c.args.here.inside (valued-laid c.byte-across.ensures ⨾ valued-laid c.byte.ensures)
