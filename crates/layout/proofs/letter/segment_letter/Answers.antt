use Rattle.ways.specs.FieldPassLaws.{is_one_of}
use mathlib.Core.Path.{refl}
use Rattle.layout.proofs.letter.segment_letter.Goals as goal

pub returns : goal.returns
returns g c = c.one_of.ensures.asks (is_one_of 76 77 66) (λ letter. refl)
