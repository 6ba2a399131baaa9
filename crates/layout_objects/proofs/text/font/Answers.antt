use Rattle.ways.specs.LayoutLaws.{◌⨾◌}
use Rattle.layout_objects.proofs.text.font.Goals as goal

pub returns : goal.returns
returns g c = c.string-family.ensures ⨾ c.face.ensures
