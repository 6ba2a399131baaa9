use Rattle.ways.specs.TransformationLaws.{transformation-run}
use Rattle.ways.specs.LayoutLaws.{valued-laid, ◌⨾◌}
use Rattle.layout.proofs.each.each_of_face.Goals as goal

pub returns : goal.returns
returns g c =
    valued-laid c.byte-shape.ensures ⨾ valued-laid c.byte-series.ensures ⨾ valued-laid c.font_size-size.ensures ⨾ transformation-run c.run.ensures
