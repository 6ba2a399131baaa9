use Rattle.ways.specs.LayoutLaws.{laid, told, then, else, valued-laid, nothing-laid}
use borrow.Author.Tests.{eq-eqb, ne_eqb}
use Rattle.layout_styles.proofs.marker.flagged_float.Goals as goal

pub returns-then-told-value : goal.returns-then-told-value
returns-then-told-value g c =
    laid (told c.flag-told.ensures (laid (then (eq-eqb _ _ c.if-told-value.true) (valued-laid c.float-taken.ensures))))

pub returns : goal.returns
returns g c =
    laid (told c.flag-told.ensures (laid (else (ne_eqb _ _ c.if-told-value.false) (nothing-laid c.flag-told.ensures.ready))))
