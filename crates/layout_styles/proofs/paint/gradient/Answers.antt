use Rattle.ways.specs.Moves.{led}
use Rattle.ways.specs.LayoutLaws.{valued-laid, ◌⨾◌}
use Rattle.layout_styles.proofs.paint.gradient.Goals as goal

pub returns : goal.returns
returns g c =
    led c.keep-told.ensures.below c.requires.begins c.requires.way_in_bounds.0 c.keep-told.ensures.moved (c.plain_paint-start.ensures ⨾ c.plain_paint-end.ensures ⨾ valued-laid c.integer_to-last.ensures)
