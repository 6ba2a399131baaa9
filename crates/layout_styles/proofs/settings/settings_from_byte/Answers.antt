use borrow.Author.Tests.{eq-eqb, ne_eqb}
use Rattle.ways.specs.LayoutLaws.{laid, cased, else, then, told, nothing-laid}
use Rattle.layout_styles.proofs.settings.settings_from_byte.Goals as goal

pub returns-then-which-eq-ALL_SETTINGS : goal.returns-then-which-eq-ALL_SETTINGS
returns-then-which-eq-ALL_SETTINGS g c =
    laid (told c.byte-told.ensures (laid (then (eq-eqb _ _ c.if-which-eq-ALL_SETTINGS.true) (laid (cased c.all_settings.ensures)))))

pub returns-then-which-eq-PAPER_ONLY : goal.returns-then-which-eq-PAPER_ONLY
returns-then-which-eq-PAPER_ONLY g c =
    laid (told c.byte-told.ensures (laid (else (ne_eqb _ _ c.if-which-eq-ALL_SETTINGS.false) (laid (then (eq-eqb _ _ c.if-which-eq-PAPER_ONLY.true) (laid (cased c.paper.ensures)))))))

pub returns : goal.returns
returns g c =
    laid (told c.byte-told.ensures (laid (else (ne_eqb _ _ c.if-which-eq-ALL_SETTINGS.false) (laid (else (ne_eqb _ _ c.if-which-eq-PAPER_ONLY.false) (laid (cased (nothing-laid c.byte-told.ensures.ready))))))))
