use Rattle.ways.specs.FieldPassLaws.{value_within}
use Rattle.ways.specs.StepLaws.{there_with, field-asked, not_there}
use Rattle.ways.specs.Faults.{range_fault}
use Rattle.ways.specs.Way.{source_units}
use Rattle.memory.specs.SizeLaws.{field-size}
use native.Mathlib.Omega.{arith}
use mathlib.Core.Path.{refl, sym, ap}
use Rattle.layout.proofs.field.ranged.Goals as goal

pub returns-then-there : goal.returns-then-there
returns-then-there g c =
    let sizes = field-size c.args.size c.requires.size_value.0 in
    let here = there_with c.args.size refl c.there.ensures.fits c.if-there.true c.get-value.ensures.value in
    record {
      asks = λ k ranged. field-asked c.requires.begins k ranged.sized here (g.W.Way.way.source.plain k.shape c.get-value.result ranged.plain) sizes.0 sizes.1 (range_fault g.W.Way.way k ranged c.requires.size_value.2 here.small c.between.ensures) c.kept.ensures.0;
      small = value_within c.between.ensures c.kept.ensures.1 c.kept.ensures.2;
    }

pub returns : goal.returns
returns g c =
    record { asks = λ k ranged. not_there c.requires.begins k (ap (source_units g.W.Way.way) (sym ranged.sized)) c.there.ensures.fits c.if-there.false c.cut.ensures.0; small = omega (arith, c.cut.ensures.1) }
