use Rattle.ways.specs.LayoutLaws.{laid, told, came_nowhere}
use Rattle.format.specs.Kind as K
use mathlib.Core.Path.{refl}
use Rattle.layout.proofs.string.string.Goals as goal

pub returns-then-length-eq0 : goal.returns-then-length-eq0
returns-then-length-eq0 g c =
    let counted = c.count-counted.ensures.asks K.string_length refl refl in
    laid (told counted (record { carried = rw c.if-length-eq0.true (came_nowhere counted.ready) }))

pub chars-requires : goal.chars-requires
chars-requires g c =
    record { begins = (c.count-counted.ensures.asks K.string_length refl refl).ready; count_bound = c.count-counted.ensures.small }

pub returns : goal.returns
returns g c = laid (told (c.count-counted.ensures.asks K.string_length refl refl) c.chars.ensures)
