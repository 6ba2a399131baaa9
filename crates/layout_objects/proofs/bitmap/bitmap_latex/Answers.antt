use borrow.Author.Tests.{eq-eqb, ne_eqb}
use Rattle.ways.specs.LayoutLaws.{laid, told, then, else, cased, nothing-laid, ◌⨾◌}
use Rattle.layout_objects.proofs.bitmap.bitmap_latex.Goals as goal

pub returns-then-told-eq1 : goal.returns-then-told-eq1
returns-then-told-eq1 g c =
    laid (told c.flag-told.ensures (laid (then (eq-eqb _ _ c.if-told-eq1.true) (laid (cased (laid (cased (c.string-link.ensures ⨾ c.string.ensures))))))))

pub returns : goal.returns
returns g c =
    laid (told c.flag-told.ensures (laid (else (ne_eqb _ _ c.if-told-eq1.false) (nothing-laid c.flag-told.ensures.ready))))
