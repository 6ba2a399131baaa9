use Rattle.ways.specs.SegmentLaws.{letter_spelled}
use Prim.Native.Nat.{◌+◌}
use mathlib.Core.Path.{ap}
use Rattle.layout.proofs.each.each_of_segment.Goals as goal

pub returns : goal.returns
returns g c =
    letter_spelled c.args.start c.segment_letter-told.ensures (ap (λ n. c.args.start + n) c.doubles_behind.ensures.0) c.run.ensures
