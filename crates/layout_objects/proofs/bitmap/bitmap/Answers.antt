use Rattle.ways.specs.LayoutLaws.{laid, cased, ◌⨾◌}
use Rattle.layout_objects.proofs.bitmap.bitmap.Goals as goal

pub returns : goal.returns
returns g c = laid (cased (c.string-named.ensures ⨾ c.bitmap_latex-linked.ensures ⨾ c.placed.ensures))
