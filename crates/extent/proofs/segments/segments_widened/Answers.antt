-- `extent::segments::segments_widened` meets its contract.
use mathlib.Core.Path.{◌≡◌, refl, sym, ap, ◌∙◌}
use Rattle.std.proofs.Common.{subst, ◌+◌, ◌-◌, ◌*◌, ◌<◌}
use native.Mathlib.Omega.{arith}
use lib.ListN.{length}
use Rattle.extent.specs.Points.{segments_at, SegmentsInside, folded}
use Rattle.extent.specs.PointLaws.{no_segments, segment-inside, segments-left, segment-ends, segment-on}
use borrow.Author.Rules.{rules}
use Rattle.extent.proofs.segments.segments_widened.Goals as goal

pub offset_bounds-words-at : goal.offset_bounds-words-at
offset_bounds-words-at c =
    let inside : c.loop-segment.at < length c.args.words.now = omega (arith, segment-inside c.args.words.now c.args.own c.loop-segment.at (c.args.segments - c.loop-segment._segment) refl (omega (arith, c.loop-segment-test.true)) c.loop-segment.invariant.1) in search rules

pub bounds-words-at : goal.bounds-words-at
bounds-words-at c =
    omega (arith, segment-inside c.args.words.now c.args.own c.loop-segment.at (c.args.segments - c.loop-segment._segment) refl (omega (arith, c.loop-segment-test.true)) c.loop-segment.invariant.1)

pub overflow_add-at : goal.overflow_add-at
overflow_add-at c =
    omega (arith, segment-inside c.args.words.now c.args.own c.loop-segment.at (c.args.segments - c.loop-segment._segment) c.points_of-points.ensures (omega (arith, c.loop-segment-test.true)) c.loop-segment.invariant.1)

pub widened_by-requires : goal.widened_by-requires
widened_by-requires c =
    segment-inside c.args.words.now c.args.own c.loop-segment.at (c.args.segments - c.loop-segment._segment) c.points_of-points.ensures (omega (arith, c.loop-segment-test.true)) c.loop-segment.invariant.1

pub returns-in_default : goal.returns-in_default
returns-in_default c =
    sym (c.loop-segment.invariant.0 ∙ segment-ends c.args.words.now c.args.own c.loop-segment.at (c.args.segments - c.loop-segment._segment) c.points_of-points.ensures (omega (arith, c.loop-segment-test.true)) c.loop-segment.kept c.in_default.ensures (λ e. omega (arith, e)))

pub overflow_add-at-in-loop-segment : goal.overflow_add-at-in-loop-segment
overflow_add-at-in-loop-segment c =
    omega (arith, segment-inside c.args.words.now c.args.own c.loop-segment.at (c.args.segments - c.loop-segment._segment) c.points_of-points.ensures (omega (arith, c.loop-segment-test.true)) c.loop-segment.invariant.1)

pub overflow_add-at-in-loop-segment-2 : goal.overflow_add-at-in-loop-segment-2
overflow_add-at-in-loop-segment-2 c =
    omega (arith, segment-inside c.args.words.now c.args.own c.loop-segment.at (c.args.segments - c.loop-segment._segment) c.points_of-points.ensures (omega (arith, c.loop-segment-test.true)) c.loop-segment.invariant.1)

pub loop-segment-preserved : goal.loop-segment-preserved
loop-segment-preserved c =
    let words = c.args.words.now in
    let left = c.args.segments - c.loop-segment._segment in
    let next = c.loop-segment.at + 1 + 4 * c.points_of-points.result in
    let fewer : left - 1 ≡ c.args.segments - (c.loop-segment._segment + 1) = omega arith in
    let more : 0 < left = omega (arith, c.loop-segment-test.true) in (
      c.loop-segment.invariant.0
          ∙ segment-on words c.args.own c.loop-segment.at left c.points_of-points.ensures more c.loop-segment.kept c.in-Some.ensures refl
          ∙ ap (λ n. folded c.in-Some.widened (segments_at words next c.args.own n)) fewer,
      subst (λ n. SegmentsInside words next c.args.own n) fewer (segments-left words c.args.own c.loop-segment.at left c.points_of-points.ensures more c.loop-segment.invariant.1),
    )

pub returns : goal.returns
returns c =
    sym (c.loop-segment.invariant.0 ∙ no_segments c.args.words.now c.args.own c.loop-segment.kept c.loop-segment.at (c.args.segments - c.loop-segment._segment) (omega (arith, c.loop-segment-test.false)))
