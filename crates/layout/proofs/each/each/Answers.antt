use Rattle.layout.specs.Groups.{stands_so, comes_so}
use Rattle.layout.proofs.each.each.Goals as goal

pub each_of_color-requires : goal.each_of_color-requires
each_of_color-requires g c =
    record { begins = c.requires.begins; way_in_bounds = stands_so g.W.Way.way (g.W.Way.units c.args.src.now) c.args.at c.in-Color.is c.requires.stands }

pub each_of_hsb-requires : goal.each_of_hsb-requires
each_of_hsb-requires g c =
    record { begins = c.requires.begins; way_in_bounds = stands_so g.W.Way.way (g.W.Way.units c.args.src.now) c.args.at c.in-Hsb.is c.requires.stands }

pub each_of_segment-requires : goal.each_of_segment-requires
each_of_segment-requires g c =
    record { begins = c.requires.begins; start_bound = stands_so g.W.Way.way (g.W.Way.units c.args.src.now) c.args.at c.in-Segment.is c.requires.stands }

pub each_of_joined-requires : goal.each_of_joined-requires
each_of_joined-requires g c =
    record { begins = c.requires.begins; way_bound = stands_so g.W.Way.way (g.W.Way.units c.args.src.now) c.args.at c.in-JoinedSegment.is c.requires.stands }

pub returns-in-Color : goal.returns-in-Color
returns-in-Color g c = comes_so c.in-Color.is (record { comes = c.each_of_color.ensures })

pub returns-in-Hsb : goal.returns-in-Hsb
returns-in-Hsb g c = comes_so c.in-Hsb.is (record { comes = c.each_of_hsb.ensures })

pub returns-in-Face : goal.returns-in-Face
returns-in-Face g c = comes_so c.in-Face.is (record { comes = c.each_of_face.ensures })

pub returns-in-Segment : goal.returns-in-Segment
returns-in-Segment g c = comes_so c.in-Segment.is (record { comes = c.each_of_segment.ensures })

pub returns-in-JoinedSegment : goal.returns-in-JoinedSegment
returns-in-JoinedSegment g c = comes_so c.in-JoinedSegment.is (record { comes = c.each_of_joined.ensures })
