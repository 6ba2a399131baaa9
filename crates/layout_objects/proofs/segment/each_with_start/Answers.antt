use Rattle.ways.specs.SegmentLaws.{first_ended}
use Rattle.layout_objects.proofs.segment.each_with_start.Goals as goal

pub returns-then-first : goal.returns-then-first
returns-then-first g c = rw c.if-first.true (first_ended c.each.ensures.comes)
