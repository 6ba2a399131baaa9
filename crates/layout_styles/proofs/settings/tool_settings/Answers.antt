use Rattle.ways.specs.LayoutLaws.{valued-laid, ◌⨾◌}
use Rattle.layout_styles.proofs.settings.tool_settings.Goals as goal

pub returns : goal.returns
returns g c =
    valued-laid c.integer_to-tool.ensures ⨾ valued-laid c.integer-normal.ensures ⨾ c.paper-papered.ensures ⨾ c.ruler_settings.ensures
