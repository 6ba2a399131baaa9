use Rattle.ways.specs.LayoutLaws.{laid, cased, ◌⨾◌}
use Rattle.layout_objects.proofs.text.text.Goals as goal

pub returns : goal.returns
returns g c = laid (cased (c.text_style-styled.ensures ⨾ c.paint-painted.ensures ⨾ c.string.ensures))
