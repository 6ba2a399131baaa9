-- `extent::points::widened_by` meets its contract.
use mathlib.Core.Path.{sym, ap, ◌∙◌}
use Rattle.std.proofs.Common.{ap₂, ◌+◌, ◌-◌, ◌*◌}
use native.Mathlib.Omega.{arith}
use Rattle.drawing.specs.Extent.{widened}
use Rattle.extent.specs.Points.{point_at, points_at, folded}
use Rattle.extent.specs.PointLaws.{no_points, point_nan, point-on}
use Rattle.extent.proofs.points.widened_by.Goals as goal

pub returns-then-nan_at : goal.returns-then-nan_at
returns-then-nan_at c =
    let at = c.args.from + 4 * c.loop-i.i in
    let left = c.args.points - c.loop-i.i in
    sym (c.loop-i.invariant ∙ point_nan c.args.words.now c.loop-i.kept at left (omega (arith, c.loop-i-test.true)) (sym c.nan_at.ensures ∙ c.if-nan_at.true))

pub loop-i-preserved : goal.loop-i-preserved
loop-i-preserved c =
    let words = c.args.words.now in
    let at = c.args.from + 4 * c.loop-i.i in
    let left = c.args.points - c.loop-i.i in
    c.loop-i.invariant
    ∙ point-on words c.loop-i.kept at left (omega (arith, c.loop-i-test.true)) (sym c.nan_at.ensures ∙ c.if-nan_at.false)
    ∙ ap₂ (λ a n. folded (widened c.loop-i.kept (point_at words at)) (points_at words a n)) {y = c.args.from + 4 * (c.loop-i.i + 1)} (omega arith) (omega arith)
    ∙ ap (λ b. folded b (points_at words (c.args.from + 4 * (c.loop-i.i + 1)) (c.args.points - (c.loop-i.i + 1)))) (sym c.widened-kept.ensures)

pub returns : goal.returns
returns c =
    sym (c.loop-i.invariant ∙ no_points c.args.words.now c.loop-i.kept (c.args.from + 4 * c.loop-i.i) (c.args.points - c.loop-i.i) (omega (arith, c.loop-i-test.false)))
