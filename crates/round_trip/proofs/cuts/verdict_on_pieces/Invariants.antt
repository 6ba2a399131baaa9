use Rattle.round_trip.specs.Cuts.{GivenTo}
use Rattle.round_trip.proofs.cuts.verdict_on_pieces.Given as goal

abbrev pub invariant-loop-cut : goal.invariant-loop-cut
invariant-loop-cut l = GivenTo l.file l.s l.at
