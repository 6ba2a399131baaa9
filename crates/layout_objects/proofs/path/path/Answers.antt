use Rattle.ways.specs.LayoutLaws.{laid, cased, ◌⨾◌}
use Rattle.layout_objects.proofs.path.path.Goals as goal

pub returns : goal.returns
returns g c =
    laid (cased (c.paint-lined.ensures ⨾ c.paint-filled.ensures ⨾ c.line_style-styled.ensures ⨾ c.outline.ensures))
