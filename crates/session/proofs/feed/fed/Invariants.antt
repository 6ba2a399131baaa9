use Rattle.session.specs.Turning.{Along}
use lib.ListN.{length}
use Prim.Native.Nat.{◌+◌, ◌-◌}
use Rattle.session.proofs.feed.fed.Given as goal

abbrev pub invariant-loop-t : goal.invariant-loop-t
invariant-loop-t l = Along l.initial.t l.bytes l.t l.from

abbrev pub decreases-loop-t : goal.decreases-loop-t
decreases-loop-t l = l.t.held + (length l.bytes - l.from)
