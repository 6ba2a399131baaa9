use Rattle.ways.specs.FieldPassLaws.{letter_judges, seen, seen_asked}
use Rattle.ways.specs.StepLaws.{not_there}
use Rattle.drawing.specs.Fields.{char_where}
use mathlib.Core.Path.{refl}
use Rattle.layout.proofs.letter.one_of.Goals as goal

pub returns-then-there : goal.returns-then-there
returns-then-there g c =
    record { asks = λ test same. seen_asked (seen {W = g.W.Way.way} (char_where test) {us = g.W.Way.units c.args.src.now} {at = c.args.at} {to = c.args.to} refl refl c.requires.begins c.there.ensures.fits c.if-there.true c.get-letter.ensures.value (letter_judges g.W.Way.way test c.requires.a_bound same c.get-letter.ensures.value.1 c.letter_fault.ensures)) c.kept.ensures.0 }

pub returns : goal.returns
returns g c =
    record { asks = λ test same. not_there c.requires.begins (char_where test) refl c.there.ensures.fits c.if-there.false c.cut.ensures.0 }
