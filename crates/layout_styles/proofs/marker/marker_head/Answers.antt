use Rattle.ways.specs.LayoutLaws.{valued-laid, ◌⨾◌}
use Rattle.layout_styles.proofs.marker.marker_head.Goals as goal

pub returns : goal.returns
returns g c = valued-laid c.float-size.ensures ⨾ valued-laid c.byte-repeats.ensures ⨾ valued-laid c.flag-reversed.ensures
