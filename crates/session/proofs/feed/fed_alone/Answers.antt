use Rattle.session.specs.Turning.{alone-held, alone-stopped}
use mathlib.Core.Logic.{inl, inr}
use mathlib.Core.Path.{refl}
use native.Mathlib.Omega.{arith}
use Rattle.session.proofs.feed.fed_alone.Goals as goal

pub returns-then-left-ge-ROOM : goal.returns-then-left-ge-ROOM
returns-then-left-ge-ROOM c = alone-stopped c.requires c.advance-next.ensures (inr (omega arith)) c.stopped.ensures

pub returns-then-not-goes_on : goal.returns-then-not-goes_on
returns-then-not-goes_on c = alone-stopped c.requires c.advance-next.ensures (inl (c.goes_on.ensures.no c.if-not-goes_on.true)) c.stopped-then-not-goes_on.ensures

pub returns : goal.returns
returns c = alone-held c.requires c.advance-next.ensures refl (omega arith) c.appended-buffer.ensures.1 c.with_held.ensures
