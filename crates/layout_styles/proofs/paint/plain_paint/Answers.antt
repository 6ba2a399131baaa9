use Rattle.drawing.specs.Paint.{transparent_case, plain_cases}
use Rattle.ways.specs.PaintLaws.{plain-laid}
use Rattle.ways.specs.FieldPassLaws.{cut-by-char}
use Rattle.layout_styles.proofs.paint.plain_paint.Goals as goal

pub returns-then-there : goal.returns-then-there
returns-then-there g c = plain-laid c.args.version c.plain.ensures

pub returns : goal.returns
returns g c =
    cut-by-char transparent_case (plain_cases c.args.version) c.requires c.there.ensures.fits c.if-there.false c.refused.ensures
