use Rattle.ways.specs.LayoutLaws.{valued-laid, ◌⨾◌}
use Rattle.layout_styles.proofs.line_style.winding_and_markers.Goals as goal

pub returns : goal.returns
returns g c = valued-laid c.byte-winding.ensures ⨾ c.markers-start.ensures ⨾ c.mid_markers-mid.ensures ⨾ c.markers.ensures
