use Rattle.ways.specs.StepLaws.{there_with, field-asked, not_there}
use Rattle.ways.specs.Faults.{own_fault}
use Rattle.drawing.specs.Fields as F
use native.Mathlib.Omega.{arith}
use mathlib.Core.Path.{refl}
use Rattle.layout.proofs.field.font_size.Goals as goal

pub returns-then-there : goal.returns-then-there
returns-then-there g c =
    let here = there_with 4 refl c.there.ensures.fits c.if-there.true c.get-word.ensures.value in
    field-asked c.requires F.font_size refl here (g.W.Way.way.source.plain (F.font_size).shape c.get-word.result refl) (omega arith) (omega arith) (own_fault F.font_size c.get-word.result g.W.Way.way (omega (arith, g.met.W.Way.word, here.small)) here.small c.size_fault.ensures) c.kept.ensures.0

pub returns : goal.returns
returns g c = not_there c.requires F.font_size refl c.there.ensures.fits c.if-there.false c.cut.ensures.0
