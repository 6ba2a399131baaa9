use Rattle.ways.specs.LayoutLaws.{laid, cased, valued-laid, ◌⨾◌}
use Rattle.layout_styles.proofs.settings.all_settings.Goals as goal

pub returns : goal.returns
returns g c =
    laid (cased (valued-laid c.flag-grid.ensures ⨾ valued-laid c.flag-lock.ensures ⨾ valued-laid c.flag-rulers.ensures ⨾ c.tool_settings.ensures))
