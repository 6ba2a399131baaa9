use Rattle.ways.specs.LayoutLaws.{laid, cased, valued-laid, ◌⨾◌}
use Rattle.layout_objects.proofs.path.outline.Goals as goal

pub returns : goal.returns
returns g c = laid (cased (valued-laid c.closed_letter-told.ensures ⨾ c.counted_segments.ensures))
