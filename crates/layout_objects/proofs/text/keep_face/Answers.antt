use mathlib.Core.Path.{refl, sym, ap, subst}
use Prim.Native.Nat.{◌+◌, ◌*◌, ◌^◌, ◌<◌, ◌≤◌}
use native.Mathlib.Omega.{arith}
use lib.ListN.{length}
use Rattle.ways.specs.Way.{source_units, value_at}
use Rattle.ways.specs.StepLaws.{steps_small}
use Rattle.ways.specs.NowhereLaws.{units_of, moves_on, moves_last}
use Rattle.ways.specs.TransformationLaws.{doubles_moved}
use Rattle.ways.specs.TextLaws.{face_sizes, series_stands, size_stands, transformation_stands, face-laid}
use Rattle.ways.specs.PickLaws.{face_units}
use Rattle.layout_objects.proofs.text.keep_face.Goals as goal

pub keep-shape-requires : goal.keep-shape-requires
keep-shape-requires g c =
    let all : c.args.at + units_of g.W.Way.way.source face_sizes ≤ length (g.W.Way.units c.args.src.now) = omega (arith, face_units g.met.W.Way.sources, c.requires.pick_in_bounds.0) in
    record { begins = c.requires.begins; size_value = (refl, omega (arith, all), λ below. c.requires.pick_in_bounds.1.shape.fits) }

pub keep-series-requires : goal.keep-series-requires
keep-series-requires g c =
    let all : c.args.at + units_of g.W.Way.way.source face_sizes ≤ length (g.W.Way.units c.args.src.now) = omega (arith, face_units g.met.W.Way.sources, c.requires.pick_in_bounds.0) in
    let stands = series_stands {W = g.W.Way.way} c.requires.begins all c.keep-shape.ensures.moved in
    record { begins = stands.ready; size_value = (refl, omega (arith, stands.place, all), λ below. subst (λ a. value_at g.W.Way.way 1 (g.W.Way.units c.args.src.now) a < 256 ^ 1) (sym stands.place) c.requires.pick_in_bounds.1.series.fits) }

pub keep-size-requires : goal.keep-size-requires
keep-size-requires g c =
    let all : c.args.at + units_of g.W.Way.way.source face_sizes ≤ length (g.W.Way.units c.args.src.now) = omega (arith, face_units g.met.W.Way.sources, c.requires.pick_in_bounds.0) in
    let stands = size_stands {W = g.W.Way.way} c.requires.begins all c.keep-shape.ensures.moved c.keep-series.ensures.moved in
    record { begins = stands.ready; size_value = (refl, omega (arith, stands.place, all), λ below. subst (λ a. value_at g.W.Way.way 4 (g.W.Way.units c.args.src.now) a < 256 ^ 4) (sym stands.place) c.requires.pick_in_bounds.1.size.fits) }

pub transformation_at-placed-requires : goal.transformation_at-placed-requires
transformation_at-placed-requires g c =
    let all : c.args.at + units_of g.W.Way.way.source face_sizes ≤ length (g.W.Way.units c.args.src.now) = omega (arith, face_units g.met.W.Way.sources, c.requires.pick_in_bounds.0) in
    let stands = transformation_stands {W = g.W.Way.way} c.requires.begins all c.keep-shape.ensures.moved c.keep-series.ensures.moved c.keep-size.ensures.moved in
    (omega (arith, stands.place, all), c.requires.begins.short)

pub put_transformation-requires : goal.put_transformation-requires
put_transformation-requires g c =
    let all : c.args.at + units_of g.W.Way.way.source face_sizes ≤ length (g.W.Way.units c.args.src.now) = omega (arith, face_units g.met.W.Way.sources, c.requires.pick_in_bounds.0) in
    let stands = transformation_stands {W = g.W.Way.way} c.requires.begins all c.keep-shape.ensures.moved c.keep-series.ensures.moved c.keep-size.ensures.moved in
    let inside : c.keep-size.result.at + 6 * source_units g.W.Way.way 8 ≤ length (g.W.Way.units c.args.src.now) = omega (arith, stands.place, all) in
    ((steps_small {W = g.W.Way.way} 8 6 stands.ready inside (omega arith) (omega arith)).to-small, ap length c.transformation_at-placed.ensures)

pub step-requires : goal.step-requires
step-requires g c =
    let all : c.args.at + units_of g.W.Way.way.source face_sizes ≤ length (g.W.Way.units c.args.src.now) = omega (arith, face_units g.met.W.Way.sources, c.requires.pick_in_bounds.0) in
    let stands = transformation_stands {W = g.W.Way.way} c.requires.begins all c.keep-shape.ensures.moved c.keep-series.ensures.moved c.keep-size.ensures.moved in
    let inside : c.keep-size.result.at + 6 * source_units g.W.Way.way 8 ≤ length (g.W.Way.units c.args.src.now) = omega (arith, stands.place, all) in
    (omega arith, steps_small {W = g.W.Way.way} 8 6 stands.ready inside (omega arith) (omega arith))

pub returns : goal.returns
returns g c =
    let all : c.args.at + units_of g.W.Way.way.source face_sizes ≤ length (g.W.Way.units c.args.src.now) = omega (arith, face_units g.met.W.Way.sources, c.requires.pick_in_bounds.0) in
    let below = c.keep-shape.ensures.below in
    let six = doubles_moved g.W.Way.way c.transformation_at-placed.ensures c.put_transformation.ensures c.step.ensures in
    face-laid {W = g.W.Way.way} (omega (arith, g.met.W.Way.double)) below all c.requires.pick_in_bounds.1 c.requires.begins (moves_on c.keep-shape.ensures.moved (moves_on c.keep-series.ensures.moved (moves_on c.keep-size.ensures.moved (moves_last six))))
