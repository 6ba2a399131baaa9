use mathlib.Core.Path.{refl}
use native.Mathlib.Omega.{arith}
use lib.ListN.{length}
use Prim.Native.Nat.{◌+◌, ◌≤◌}
use Rattle.ways.specs.Way.{Way}
use Rattle.ways.specs.Picks.{Picks}
use Rattle.ways.specs.PickLaws.{face_units}
use Rattle.ways.specs.NowhereLaws.{Grouped, units_of, ahead_small, moves_nowhere}
use Rattle.ways.specs.TextLaws.{face_sizes, face-laid}
use Rattle.layout_objects.proofs.text.face.Goals as goal

grouped : {W : Way} → Picks W.source → Picks W.target → Grouped W 54 15 face_sizes
grouped sources targets =
    record { source = omega (arith, face_units sources); target = omega (arith, face_units targets); sized = refl }

pub face_good-requires : goal.face_good-requires
face_good-requires g c = (c.there.ensures.fits.yes c.if-there.true, c.requires.short)

pub ahead-requires : goal.ahead-requires
ahead-requires g c = ahead_small (grouped {W = g.W.Way.way} g.met.W.Way.sources g.met.W.Way.targets) c.requires (c.there.ensures.fits.yes c.if-there.true)

pub returns-then-dst-eq0 : goal.returns-then-dst-eq0
returns-then-dst-eq0 g c =
    let yes : c.args.at + units_of g.W.Way.way.source face_sizes ≤ length (g.W.Way.units c.args.src.now) = omega (arith, c.there.ensures.fits.yes c.if-there.true, face_units g.met.W.Way.sources) in
    let below = c.there.ensures.below in
    face-laid {W = g.W.Way.way} (omega (arith, g.met.W.Way.double)) below yes (c.face_good.ensures c.if-face_good.true) c.requires (moves_nowhere (grouped {W = g.W.Way.way} g.met.W.Way.sources g.met.W.Way.targets) (omega (arith, g.met.W.Way.kept_length c.args.dst.now, c.if-dst-eq0.true)) c.ahead.ensures)

pub keep_face-requires : goal.keep_face-requires
keep_face-requires g c =
    record { begins = c.requires; pick_in_bounds = (c.there.ensures.fits.yes c.if-there.true, c.face_good.ensures c.if-face_good.true) }
