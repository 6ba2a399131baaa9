use Rattle.ways.specs.LayoutLaws.{valued-laid, ◌⨾◌}
use Rattle.layout_styles.proofs.settings.ruler_settings.Goals as goal

pub returns : goal.returns
returns g c = valued-laid c.byte-unit.ensures ⨾ valued-laid c.integer-major.ensures ⨾ valued-laid c.integer-minor.ensures
