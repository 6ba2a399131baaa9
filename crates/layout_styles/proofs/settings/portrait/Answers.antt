use borrow.Author.Tests.{lt-ltb}
use Rattle.ways.specs.LayoutLaws.{laid, then, valued-laid}
use Rattle.layout_styles.proofs.settings.portrait.Goals as goal

pub returns-then-version-lt-V1_3 : goal.returns-then-version-lt-V1_3
returns-then-version-lt-V1_3 g c = laid (then (lt-ltb c.args.version 3 c.if-version-lt-V1_3.true) (valued-laid c.flag-told.ensures))
