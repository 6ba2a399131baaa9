use Rattle.ways.specs.LayoutLaws.{laid, cased, ◌⨾◌}
use Rattle.layout_objects.proofs.text_path.text_path.Goals as goal

pub returns : goal.returns
returns g c =
    laid (cased (c.paint-painted.ensures ⨾ c.text_style-styled.ensures ⨾ c.string-worded.ensures ⨾ c.outline.ensures))
