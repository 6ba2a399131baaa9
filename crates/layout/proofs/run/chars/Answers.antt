use Prim.Native.Nat.{◌+◌, ◌*◌, ◌≤◌, ◌<◌}
use lib.ListN.{length}
use native.Mathlib.Omega.{arith}
use mathlib.Core.Path.{refl}
use Rattle.ways.specs.RunLaws.{run-there, run-wide, run_missing}
use Rattle.ways.specs.Way.{source_units}
use Rattle.layout.proofs.Picking.{chars_inside, chars_outside}
use Rattle.layout.proofs.run.chars.Goals as goal

pub returns-then-has_wide : goal.returns-then-has_wide
returns-then-has_wide g c =
    let inside : c.args.at + c.args.count * source_units g.W.Way.way 2 ≤ length (g.W.Way.units c.args.src.now) = chars_inside g.met.W.Way.sources c.args.count c.there.ensures.fits c.if-there.true in
    rw c.refusal.ensures ((run-wide g.W.Way.way {size = 2} c.args.count c.requires.begins (omega arith) inside (c.has_wide.ensures.one c.if-has_wide.true)).chars refl)

pub returns-then-there : goal.returns-then-there
returns-then-there g c =
    let inside : c.args.at + c.args.count * source_units g.W.Way.way 2 ≤ length (g.W.Way.units c.args.src.now) = chars_inside g.met.W.Way.sources c.args.count c.there.ensures.fits c.if-there.true in
    rw c.step.ensures ((run-there g.W.Way.way {size = 2} c.args.count c.requires.begins (omega arith) (omega arith) inside (c.has_wide.ensures.none c.if-has_wide.false c.there.ensures.below) c.copy_chars.ensures).chars refl)

pub returns : goal.returns
returns g c =
    let fewer : length (g.W.Way.units c.args.src.now) < c.args.at + c.args.count * source_units g.W.Way.way 2 = chars_outside g.met.W.Way.sources c.args.count c.there.ensures.fits c.if-there.false in
    (run_missing g.W.Way.way {size = 2} c.args.count c.requires.begins (omega arith) c.there.ensures.below fewer c.cut_run.ensures).chars refl
