use Rattle.drawing.specs.Paint.{transparent_case, as_paint, paint_cases}
use Rattle.ways.specs.PaintLaws.{linear_laid, radial_laid, plain_as_paint}
use Rattle.ways.specs.FieldPassLaws.{cut-by-char}
use mathlib.Core.Path.{sym, ◌∙◌}
use Rattle.layout_styles.proofs.paint.paint.Goals as goal

pub returns-then-letter-eq-LINEAR : goal.returns-then-letter-eq-LINEAR
returns-then-letter-eq-LINEAR g c = linear_laid c.args.version c.get-letter.ensures.value.0 c.if-letter-eq-LINEAR.true c.gradient.ensures

pub returns-then-is_radial : goal.returns-then-is_radial
returns-then-is_radial g c =
    radial_laid c.args.version c.get-letter.ensures.value.0 (sym c.is_radial.ensures ∙ c.if-is_radial.true) c.gradient-then-is_radial.ensures

pub returns-then-there : goal.returns-then-there
returns-then-there g c =
    plain_as_paint c.args.version c.get-letter.ensures.value.0 c.if-letter-eq-LINEAR.false (sym c.is_radial.ensures ∙ c.if-is_radial.false) c.plain.ensures

pub returns : goal.returns
returns g c =
    cut-by-char (as_paint transparent_case) (paint_cases c.args.version) c.requires c.there.ensures.fits c.if-there.false c.refused.ensures
