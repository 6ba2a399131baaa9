use Rattle.ways.specs.LayoutLaws.{◌⨾◌}
use Rattle.layout_objects.proofs.leaf.leaf_body.Goals as goal

pub returns : goal.returns
returns g c = c.leaf_parts-parts.ensures ⨾ c.object_end.ensures
