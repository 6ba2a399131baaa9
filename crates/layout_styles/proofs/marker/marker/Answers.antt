use Rattle.ways.specs.LayoutLaws.{laid, cased, same-laid, ◌⨾◌}
use Rattle.ways.specs.MarkerLaws.{unless-flag}
use mathlib.Core.Path.{refl}
use Rattle.layout_styles.proofs.marker.marker.Goals as goal

pub returns : goal.returns
returns g c =
    laid (cased (same-laid (λ K. refl) (c.marker_head-turned.ensures ⨾ unless-flag c.flagged_float-oriented.ensures ⨾ c.plain_paint-painted.ensures ⨾ c.overlay.ensures)))
