use Rattle.ways.specs.LineStyleLaws.{no_dashes, some_dashes}
use Rattle.layout_styles.proofs.line_style.dashes.Goals as goal

pub returns-then-count-eq0 : goal.returns-then-count-eq0
returns-then-count-eq0 g c = no_dashes c.dash_count-counted.ensures.0 c.if-count-eq0.true

pub returns : goal.returns
returns g c = some_dashes c.dash_count-counted.ensures.0 c.if-count-eq0.false c.run.ensures
