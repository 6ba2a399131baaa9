use Rattle.ways.specs.LayoutLaws.{laid, told, then, else, nothing-laid, ◌⨾◌}
use Rattle.ways.specs.MarkerLaws.{if_flag_lem}
use mathlib.Core.Bool.{◌&&◌}
use mathlib.Core.Path.{ap}
use lib.Dec.{eqb}
use native.Mathlib.Omega.{arith}
use borrow.Author.Tests.{eq-eqb, ne_eqb, le-leb, lt-leb}
use Rattle.layout_styles.proofs.marker.overlay.Goals as goal

pub returns-then-version-lt-V1_4 : goal.returns-then-version-lt-V1_4
returns-then-version-lt-V1_4 g c =
    laid (told c.flag-told.ensures (laid (else (ap (λ t. t && eqb c.flag-told.result.value 0) (lt-leb 4 c.args.version (omega (arith, c.if-version-lt-V1_4.true)))) (nothing-laid c.flag-told.ensures.ready))))

pub returns-then-told-ne0 : goal.returns-then-told-ne0
returns-then-told-ne0 g c =
    laid (told c.flag-told.ensures (laid (else (rw (le-leb 4 c.args.version (omega (arith, c.if-version-lt-V1_4.false))) (ne_eqb _ _ c.if-told-ne0.true)) (nothing-laid c.flag-told.ensures.ready))))

pub returns : goal.returns
returns g c =
    laid (told c.flag-told.ensures (laid (then (rw (le-leb 4 c.args.version (omega (arith, c.if-version-lt-V1_4.false))) (eq-eqb _ _ c.if-told-ne0.false)) (if_flag_lem c.flagged_float-offset.ensures ⨾ if_flag_lem c.flagged_float.ensures))))
