use Rattle.ways.specs.LayoutLaws.{laid, cased, ◌⨾◌}
use Rattle.layout_objects.proofs.text.text_style.Goals as goal

pub returns : goal.returns
returns g c = laid (cased (c.font-set.ensures ⨾ c.latex_if.ensures))
