-- `extent::segments::around` meets its contract.
use mathlib.Core.Path.{sym, ap, ◌∙◌}
use Rattle.extent.specs.Points.{point_at, segments_at, folded}
use Rattle.extent.specs.BoxLaws.{boxed_nan, boxed-on}
use Rattle.extent.proofs.segments.around.Goals as goal

pub returns-then-nan_at : goal.returns-then-nan_at
returns-then-nan_at c =
    sym (boxed_nan (point_at c.args.words.now c.args.first) (segments_at c.args.words.now c.args.from c.args.own c.args.segments) (sym c.nan_at.ensures ∙ c.if-nan_at.true))

pub returns : goal.returns
returns c =
    c.segments_widened.ensures ∙ ap (λ b. folded b (segments_at c.args.words.now c.args.from c.args.own c.args.segments)) c.box_at.ensures ∙ sym (boxed-on (point_at c.args.words.now c.args.first) (segments_at c.args.words.now c.args.from c.args.own c.args.segments) (sym c.nan_at.ensures ∙ c.if-nan_at.false))
