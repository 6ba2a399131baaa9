-- `extent::segments::outline_extent` meets its contract.
use mathlib.Core.Path.{◌∙◌}
use native.Mathlib.Omega.{arith}
use Rattle.extent.specs.OutlineLaws.{count-inside, early_outline, late_outline}
use Rattle.extent.proofs.segments.outline_extent.Goals as goal

pub bounds-words-at : goal.bounds-words-at
bounds-words-at c = count-inside c.args.version c.args.at c.requires.value c.requires.here

pub around-requires : goal.around-requires
around-requires c =
    let it = early_outline c.args.version c.args.at c.requires.value c.requires.here c.if-version-lt-V1_3.true in (it.first-inside, it.inside)

pub returns-then-version-lt-V1_3 : goal.returns-then-version-lt-V1_3
returns-then-version-lt-V1_3 c =
    λ o here. c.around.ensures ∙ (early_outline c.args.version c.args.at o here c.if-version-lt-V1_3.true).answer-is

pub around-requires-2 : goal.around-requires-2
around-requires-2 c =
    let it = late_outline c.args.version c.args.at c.requires.value c.requires.here (omega (arith, c.if-version-lt-V1_3.false)) in (it.first-inside, it.inside)

pub returns : goal.returns
returns c =
    λ o here. c.around-2.ensures ∙ (late_outline c.args.version c.args.at o here (omega (arith, c.if-version-lt-V1_3.false))).answer-is
