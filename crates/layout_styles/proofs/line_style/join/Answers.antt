use Rattle.ways.specs.LayoutLaws.{laid, told, then, else, valued-laid, nothing-laid}
use borrow.Author.Tests.{eq-eqb, ne_eqb}
use Rattle.layout_styles.proofs.line_style.join.Goals as goal

pub returns-then-told-eq-MITRE : goal.returns-then-told-eq-MITRE
returns-then-told-eq-MITRE g c =
    laid (told c.byte-told.ensures (laid (then (eq-eqb c.byte-told.result.value 0 c.if-told-eq-MITRE.true) (valued-laid c.float-mitre.ensures))))

pub returns : goal.returns
returns g c =
    laid (told c.byte-told.ensures (laid (else (ne_eqb c.byte-told.result.value 0 c.if-told-eq-MITRE.false) (nothing-laid c.byte-told.ensures.ready))))
