use mathlib.Core.Path.{ap}
use native.Mathlib.Omega.{arith}
use lib.ListN.{length}
use Prim.Native.Nat.{◌+◌, ◌*◌, ◌≤◌}
use Rattle.ways.specs.Way.{source_units}
use Rattle.ways.specs.PickLaws.{six_doubles}
use Rattle.ways.specs.StepLaws.{steps_small}
use Rattle.ways.specs.Moves.{moved_nowhere}
use Rattle.ways.specs.TransformationLaws.{doubles_moved, transformation_moved, transformation-run}
use Rattle.layout_objects.proofs.bitmap.placed.Goals as goal

pub step-requires : goal.step-requires
step-requires g c =
    let yes : c.args.at + 6 * source_units g.W.Way.way 8 ≤ length (g.W.Way.units c.args.src.now) = omega (arith, c.there.ensures.fits.yes c.if-there.true, six_doubles g.met.W.Way.sources) in
    (omega arith, steps_small {W = g.W.Way.way} 8 6 c.requires yes (omega arith) (omega arith))

pub returns-then-dst-eq0 : goal.returns-then-dst-eq0
returns-then-dst-eq0 g c =
    let yes : c.args.at + 6 * source_units g.W.Way.way 8 ≤ length (g.W.Way.units c.args.src.now) = omega (arith, c.there.ensures.fits.yes c.if-there.true, six_doubles g.met.W.Way.sources) in
    let below = c.there.ensures.below in
    transformation_moved {W = g.W.Way.way} (omega (arith, g.met.W.Way.double)) below c.requires yes (moved_nowhere g.W.Way.way 8 6 (omega (arith, g.met.W.Way.kept_length c.args.dst.now, c.if-dst-eq0.true)) c.step.ensures)

pub transformation_at-six-requires : goal.transformation_at-six-requires
transformation_at-six-requires g c = (omega (arith, c.there.ensures.fits.yes c.if-there.true, six_doubles g.met.W.Way.sources), c.requires.short)

pub put_transformation-requires : goal.put_transformation-requires
put_transformation-requires g c =
    let yes : c.args.at + 6 * source_units g.W.Way.way 8 ≤ length (g.W.Way.units c.args.src.now) = omega (arith, c.there.ensures.fits.yes c.if-there.true, six_doubles g.met.W.Way.sources) in
    ((steps_small {W = g.W.Way.way} 8 6 c.requires yes (omega arith) (omega arith)).to-small, ap length c.transformation_at-six.ensures)

pub step-requires-then-there : goal.step-requires-then-there
step-requires-then-there g c =
    let yes : c.args.at + 6 * source_units g.W.Way.way 8 ≤ length (g.W.Way.units c.args.src.now) = omega (arith, c.there.ensures.fits.yes c.if-there.true, six_doubles g.met.W.Way.sources) in
    (omega arith, steps_small {W = g.W.Way.way} 8 6 c.requires yes (omega arith) (omega arith))

pub returns-then-there : goal.returns-then-there
returns-then-there g c =
    let yes : c.args.at + 6 * source_units g.W.Way.way 8 ≤ length (g.W.Way.units c.args.src.now) = omega (arith, c.there.ensures.fits.yes c.if-there.true, six_doubles g.met.W.Way.sources) in
    let below = c.there.ensures.below in
    transformation_moved {W = g.W.Way.way} (omega (arith, g.met.W.Way.double)) below c.requires yes (doubles_moved g.W.Way.way c.transformation_at-six.ensures c.put_transformation.ensures c.step-then-there.ensures)

pub returns : goal.returns
returns g c = transformation-run c.run.ensures
