use Prim.Native.Nat.{◌-◌}
use lib.ListN.{length}
use Rattle.session_run.specs.Running.{Came}
use Rattle.session_run.proofs.run.run.Given as goal

abbrev pub invariant-loop-place : goal.invariant-loop-place
invariant-loop-place l = Came l.initial.place l.initial.members l.place l.members l.src l.initial.to l.at l.to

abbrev pub decreases-loop-place : goal.decreases-loop-place
decreases-loop-place l = length l.src - l.at
