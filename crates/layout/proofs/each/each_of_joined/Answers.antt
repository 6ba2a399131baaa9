use Rattle.ways.specs.SegmentLaws.{joined-ended}
use Rattle.ways.specs.Segments.{end_before}
use Rattle.layout.proofs.each.each_of_joined.Goals as goal

pub returns : goal.returns
returns g c =
    joined-ended (end_before g.W.Way.way (g.W.Way.units c.args.src.now) c.args.at) c.segment_letter-told.ensures c.joined_start-started.ensures c.doubles_behind-doubles.ensures.0 c.run.ensures
