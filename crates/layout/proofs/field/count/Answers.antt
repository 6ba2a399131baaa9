use Rattle.ways.specs.StepLaws.{there_with, field-asked, not_there}
use Rattle.ways.specs.Faults.{own_fault}
use Rattle.ways.specs.Way.{source_units}
use Rattle.drawing.specs.Fields as F
use Rattle.drawing.specs.FlagLaws.{long-plain}
use native.Mathlib.Omega.{arith}
use mathlib.Core.Path.{refl, sym, ap}
use Rattle.layout.proofs.field.count.Goals as goal

pub returns-then-there : goal.returns-then-there
returns-then-there g c =
    let here = there_with 4 refl c.there.ensures.fits c.if-there.true c.get-word.ensures.value in
    record { asks = λ s sized all. field-asked c.requires (record { shape = s; fault = (F.count c.args.least).fault }) sized here (g.W.Way.way.source.plain s c.get-word.result (long-plain s 4 sized (omega arith))) (omega arith) (omega arith) (own_fault (record { shape = s; fault = (F.count c.args.least).fault }) c.get-word.result g.W.Way.way (omega (arith, g.met.W.Way.word, all, here.small)) (rw sized here.small) c.count_fault.ensures) c.kept.ensures.0; small = omega (arith, g.met.W.Way.word, here.small, c.kept.ensures.1) }

pub returns : goal.returns
returns g c =
    record { asks = λ s sized all. not_there c.requires (record { shape = s; fault = (F.count c.args.least).fault }) (ap (source_units g.W.Way.way) (sym sized)) c.there.ensures.fits c.if-there.false c.cut.ensures.0; small = omega (arith, c.cut.ensures.1) }
