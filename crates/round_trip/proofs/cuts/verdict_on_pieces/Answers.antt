use Rattle.round_trip.specs.Cuts.{given_nothing, given_more, given-all}
use native.Mathlib.Nat as Nat
use native.Mathlib.Omega.{arith}
use Rattle.round_trip.proofs.cuts.verdict_on_pieces.Goals as goal

pub loop-cut-init : goal.loop-cut-init
loop-cut-init c = given_nothing c.fresh-s.ensures

pub slice_bounds-pieced-count : goal.slice_bounds-pieced-count
slice_bounds-pieced-count c =
    let there = c.loop-cut.invariant.there in omega arith

pub returns : goal.returns
returns c =
    given-all (given_more c.loop-cut.invariant c.loop-cut.invariant.there (Nat.le_refl _) c.pieced-last.ensures) (Nat.le_refl _) c.judged-end.ensures
