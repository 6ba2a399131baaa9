use Rattle.ways.specs.SegmentLaws.{curve_letter, moved_spelled}
use native.Mathlib.Omega.{arith}
use mathlib.Core.Path.{◌≡◌, refl}
use Prim.Native.Nat.{◌+◌, ◌*◌}
use Rattle.ways.specs.Way.{source_units}
use Rattle.ways.specs.PickLaws.{letter_points}
use Rattle.layout_objects.proofs.segment.curve.Goals as goal

pub keep_segment-requires : goal.keep_segment-requires
keep_segment-requires g c =
    let yes = c.there.ensures.fits.yes c.if-there.true in
    let picked : g.W.Way.way.source.pick 50 13 ≡ source_units g.W.Way.way 2 + 6 * source_units g.W.Way.way 8 = letter_points g.met.W.Way.sources 3 in
    record { begins = c.requires.begins; way_in_bounds = (omega (arith, yes, picked), (curve_letter c.requires.at_value).allowed.fits) }

pub returns-then-there : goal.returns-then-there
returns-then-there g c =
    let yes = c.there.ensures.fits.yes c.if-there.true in
    let picked : g.W.Way.way.source.pick 50 13 ≡ source_units g.W.Way.way 2 + 6 * source_units g.W.Way.way 8 = letter_points g.met.W.Way.sources 3 in
    moved_spelled 0 3 c.there.ensures.below (omega (arith, g.met.W.Way.double)) c.requires.begins (omega (arith, yes, picked)) (curve_letter c.requires.at_value) refl c.keep_segment.ensures
