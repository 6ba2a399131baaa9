use Rattle.ways.specs.LayoutLaws.{laid, cased, valued-laid, ◌⨾◌}
use Rattle.layout_styles.proofs.line_style.line_style.Goals as goal

pub returns : goal.returns
returns g c =
    laid (cased (valued-laid c.float-wide.ensures ⨾ c.dashes-dashed.ensures ⨾ valued-laid c.byte-cap.ensures ⨾ c.join-joined.ensures ⨾ c.winding_and_markers.ensures))
