use mathlib.Core.Path.{refl}
use Rattle.ways.specs.LayoutLaws.{same-laid, ◌⨾◌}
use Rattle.layout_objects.proofs.text.latex.Goals as goal

pub returns : goal.returns
returns g c = same-laid (λ K. refl) (c.before_alternative-before.ensures ⨾ c.string.ensures)
