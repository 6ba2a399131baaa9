use Rattle.ways.specs.FieldPassLaws.{two-of}
use Rattle.drawing.specs.Fields.{one_of_chars}
use mathlib.Core.List.{[], ◌∷◌}
use Rattle.layout.proofs.letter.closed_letter.Goals as goal

pub returns : goal.returns
returns g c = c.one_of.ensures.asks (one_of_chars (79 ∷ 67 ∷ [])) (two-of 79 67)
