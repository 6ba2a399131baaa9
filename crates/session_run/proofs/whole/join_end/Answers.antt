use Rattle.ways.specs.LayoutLaws.{laid, told, then, else, valued-laid, nothing-laid, ◌⨾◌}
use borrow.Author.Tests.{eq-eqb, ne_eqb}
use Rattle.session_run.proofs.whole.join_end.Goals as goal

pub returns-then-join-eq-MITRE : goal.returns-then-join-eq-MITRE
returns-then-join-eq-MITRE c =
    laid (told c.byte-join.ensures (laid (then (eq-eqb c.byte-join.result.value 0 c.if-join-eq-MITRE.true) (valued-laid c.float-mitre.ensures)))) ⨾ valued-laid c.byte-wound.ensures

pub returns : goal.returns
returns c =
    laid (told c.byte-join.ensures (laid (else (ne_eqb c.byte-join.result.value 0 c.if-join-eq-MITRE.false) (nothing-laid c.byte-join.ensures.ready)))) ⨾ valued-laid c.byte-winding.ensures
