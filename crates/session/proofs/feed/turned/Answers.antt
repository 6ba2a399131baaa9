use Rattle.session.specs.Turning.{turns-held, turns_full, turns-behind, turns-on, turns_stopped}
use native.Mathlib.Omega.{arith}
use Rattle.session.proofs.feed.turned.Goals as goal

pub returns-then-not-goes_on : goal.returns-then-not-goes_on
returns-then-not-goes_on c =
    let r = c.requires in turns_stopped c.run_joined-t.ensures r.0 r.1 r.2 (c.goes_on.ensures.no c.if-not-goes_on.true) c.stopped.ensures

pub returns-then-t-lt-ROOM : goal.returns-then-t-lt-ROOM
returns-then-t-lt-ROOM c =
    let r = c.requires in turns-held c.run_joined-t.ensures r.0 r.1 r.2 c.if-t-eq0.true (omega arith) c.with_held.ensures

pub returns-then-t-eq0 : goal.returns-then-t-eq0
returns-then-t-eq0 c =
    let r = c.requires in turns_full c.run_joined-t.ensures r.0 r.1 r.2 c.if-t-eq0.true (omega arith) c.stopped-then-t-eq0.ensures

pub returns-then-held-t : goal.returns-then-held-t
returns-then-held-t c =
    let r = c.requires in turns-behind c.run_joined-t.ensures r.0 r.1 r.2 (omega arith) c.with_held-then-held-t.ensures

pub returns : goal.returns
returns c =
    let r = c.requires in turns-on c.run_joined-t.ensures r.0 r.1 r.2 c.if-t-eq0.false c.appended-buffer.ensures.1 c.with_held-2.ensures
