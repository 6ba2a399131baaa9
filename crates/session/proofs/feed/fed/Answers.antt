use Rattle.session.specs.Turning.{along_ended, along_on, along_last}
use native.Mathlib.Omega.{arith}
use Rattle.session.proofs.feed.fed.Goals as goal

pub returns-in-Over : goal.returns-in-Over
returns-in-Over c = along_ended c.loop-t.invariant c.in-Over.ensures

pub loop-t-preserved : goal.loop-t-preserved
loop-t-preserved c = along_on c.loop-t.invariant c.in-On.ensures

pub returns : goal.returns
returns c = along_last c.loop-t.invariant (omega arith) c.fed_alone.ensures
