use lib.Dec.{ltb}
use lib.ListN.{length}
use mathlib.Core.Path.{ap₂, ◌∙◌}
use Rattle.drawing.specs.Questions.{shown}
use Rattle.round_trip.specs.ShownLaws.{shows_none, runs_inside, chars-of, shows_chars}
use Rattle.round_trip.proofs.shown_text.Goals as goal

pub returns-then-asked-ne0 : goal.returns-then-asked-ne0
returns-then-asked-ne0 c = shows_none c.text-asked.ensures c.if-asked-ne0.true

pub run-requires : goal.run-requires
run-requires c = (runs_inside c.text-asked.ensures c.if-asked-ne0.false).0

pub run-requires-2 : goal.run-requires-2
run-requires-2 c = (runs_inside c.text-asked.ensures c.if-asked-ne0.false).1

pub returns : goal.returns
returns c =
    shows_chars c.text-asked.ensures c.if-asked-ne0.false (chars-of (λ x. x.now) (ltb 0 (length c.run.result.now)) c.run.result c.run-2.result c.shown.ensures ∙ ap₂ (λ a p. shown (length a) a p) c.run.ensures c.run-2.ensures)
