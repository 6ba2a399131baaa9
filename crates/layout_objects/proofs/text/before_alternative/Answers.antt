use Rattle.ways.specs.LayoutLaws.{valued-laid, ◌⨾◌}
use Rattle.layout_objects.proofs.text.before_alternative.Goals as goal

pub returns : goal.returns
returns g c =
    c.string-family.ensures ⨾ c.string-series.ensures ⨾ c.string-shape.ensures ⨾ c.string-size.ensures ⨾ valued-laid c.byte-horizontal.ensures ⨾ valued-laid c.byte-vertical.ensures
