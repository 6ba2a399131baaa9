use Rattle.ways.specs.LayoutLaws.{laid, cased, valued-laid, ◌⨾◌}
use Rattle.layout_styles.proofs.marker.arrow.Goals as goal

pub returns : goal.returns
returns g c =
    laid (cased (valued-laid c.float-size.ensures ⨾ valued-laid c.flag-doubled.ensures ⨾ valued-laid c.flag-reversed.ensures))
