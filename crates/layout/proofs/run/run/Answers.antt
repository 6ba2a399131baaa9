use Rattle.ways.specs.RunLaws.{run-there, run-wide, run_missing}
use Rattle.memory.specs.SizeLaws.{run-size}
use Rattle.layout.proofs.Picking.{run_inside, run_outside}
use Rattle.layout.proofs.run.run.Goals as goal

pub returns-then-has_wide : goal.returns-then-has_wide
returns-then-has_wide g c =
    let sizes = run-size c.args.size c.requires.size_value.0 in
    let inside = run_inside g.met.W.Way.sources c.args.count c.args.size c.there.ensures.fits c.if-there.true in
    rw c.refusal.ensures (run-wide g.W.Way.way c.args.count c.requires.begins sizes.0 inside (c.has_wide.ensures.one c.if-has_wide.true))

pub returns-then-there : goal.returns-then-there
returns-then-there g c =
    let below = c.there.ensures.below in
    let sizes = run-size c.args.size c.requires.size_value.0 in
    let inside = run_inside g.met.W.Way.sources c.args.count c.args.size c.there.ensures.fits c.if-there.true in
    rw c.step.ensures (run-there g.W.Way.way c.args.count c.requires.begins sizes.0 sizes.1 inside (c.has_wide.ensures.none c.if-has_wide.false below) c.copy.ensures)

pub returns : goal.returns
returns g c =
    let below = c.there.ensures.below in
    let sizes = run-size c.args.size c.requires.size_value.0 in
    run_missing g.W.Way.way c.args.count c.requires.begins sizes.0 below (run_outside g.met.W.Way.sources c.args.count c.args.size c.there.ensures.fits c.if-there.false) c.cut_run.ensures
