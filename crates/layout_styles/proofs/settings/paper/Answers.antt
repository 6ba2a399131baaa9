use mathlib.Core.Path.{sym}
use borrow.Author.Tests.{eq-eqb, ne_eqb}
use Rattle.ways.specs.LayoutLaws.{laid, cased, else, then, told, nothing-laid}
use Rattle.ways.specs.SettingsLaws.{measures_ready, measures_then}
use Rattle.layout_styles.proofs.settings.paper.Goals as goal

pub portrait-requires : goal.portrait-requires
portrait-requires g c = measures_ready c.run-measured.ensures

pub returns-then-size-eq-USER_PAPER : goal.returns-then-size-eq-USER_PAPER
returns-then-size-eq-USER_PAPER g c =
    rw (sym c.last_paper-high.ensures.0) (laid (cased (laid (told c.byte-told.ensures (laid (then (eq-eqb _ _ c.if-size-eq-USER_PAPER.true) (measures_then c.run-measured.ensures c.portrait.ensures)))))))

pub returns : goal.returns
returns g c =
    rw (sym c.last_paper-high.ensures.0) (laid (cased (laid (told c.byte-told.ensures (laid (else (ne_eqb _ _ c.if-size-eq-USER_PAPER.false) (nothing-laid c.byte-told.ensures.ready)))))))
