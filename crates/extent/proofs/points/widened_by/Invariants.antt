use Rattle.std.proofs.Common.{◌≡◌, ◌+◌, ◌-◌, ◌*◌}
use Rattle.extent.specs.Points.{points_at, folded}
use Rattle.extent.proofs.points.widened_by.Given as goal

abbrev pub invariant-loop-i : goal.invariant-loop-i
invariant-loop-i l = folded l.initial.kept (points_at l.words l.from l.points) ≡ folded l.kept (points_at l.words (l.from + 4 * l.i) (l.points - l.i))
