use Rattle.std.proofs.Common.{◌≡◌, ◌-◌}
use Rattle.extent.specs.Points.{segments_at, SegmentsInside, folded}
use Rattle.extent.proofs.segments.segments_widened.Given as goal

abbrev pub invariant-loop-segment : goal.invariant-loop-segment
invariant-loop-segment l =
    (folded l.initial.kept (segments_at l.words l.from l.own l.segments) ≡ folded l.kept (segments_at l.words l.at l.own (l.segments - l._segment))) × SegmentsInside l.words l.at l.own (l.segments - l._segment)
