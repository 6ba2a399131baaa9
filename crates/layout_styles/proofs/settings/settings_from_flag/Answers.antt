use borrow.Author.Tests.{eq-eqb, ne_eqb}
use Rattle.ways.specs.LayoutLaws.{laid, cased, else, then, told, nothing-laid}
use Rattle.layout_styles.proofs.settings.settings_from_flag.Goals as goal

pub returns-then-told-eq-ALL_SETTINGS : goal.returns-then-told-eq-ALL_SETTINGS
returns-then-told-eq-ALL_SETTINGS g c =
    laid (told c.flag-told.ensures (laid (then (eq-eqb _ _ c.if-told-eq-ALL_SETTINGS.true) (laid (cased c.all_settings.ensures)))))

pub returns : goal.returns
returns g c =
    laid (told c.flag-told.ensures (laid (else (ne_eqb _ _ c.if-told-eq-ALL_SETTINGS.false) (laid (cased (nothing-laid c.flag-told.ensures.ready))))))
