use Rattle.ways.specs.NowhereLaws.{moves_apart, moves_led, one_allowed}
use Rattle.ways.specs.PickLaws.{letter_words}
use Rattle.ways.specs.Way.{source_units}
use Rattle.ways.specs.Moves.{AllAllowed}
use Rattle.drawing.specs.Fields as F
use Prim.Native.Nat.{◌+◌, ◌*◌}
use native.Mathlib.Omega.{arith}
use mathlib.Core.List.{[], ◌∷◌}
use mathlib.Core.Path.{◌≡◌, refl, subst}
use Rattle.layout_styles.proofs.paint.hsb.Goals as goal

pub hsb_good-requires : goal.hsb_good-requires
hsb_good-requires g c =
    let yes = c.there.ensures.fits.yes c.if-there.true in
    let four : g.W.Way.way.source.pick 18 5 ≡ source_units g.W.Way.way 2 + 4 * source_units g.W.Way.way 4 = letter_words g.met.W.Way.sources 4 in
    (omega (arith, yes, four), c.requires.begins.short)

pub keep_color-requires : goal.keep_color-requires
keep_color-requires g c =
    let yes = c.there.ensures.fits.yes c.if-there.true in
    let four : g.W.Way.way.source.pick 18 5 ≡ source_units g.W.Way.way 2 + 4 * source_units g.W.Way.way 4 = letter_words g.met.W.Way.sources 4 in
    record { begins = c.requires.begins; way_in_bounds = (omega (arith, yes, four), c.requires.way_in_bounds.1) }

pub returns-then-hsb_good : goal.returns-then-hsb_good
returns-then-hsb_good g c =
    let yes = c.there.ensures.fits.yes c.if-there.true in
    let four : g.W.Way.way.source.pick 18 5 ≡ source_units g.W.Way.way 2 + 4 * source_units g.W.Way.way 4 = letter_words g.met.W.Way.sources 4 in
    let good = c.hsb_good.ensures c.if-hsb_good.true in
    let once : c.args.at + source_units g.W.Way.way 2 + source_units g.W.Way.way 4 ≡ c.args.at + source_units g.W.Way.way 2 + 1 * source_units g.W.Way.way 4 = omega arith in
    moves_led ((F.hue, 1) ∷ (F.component, 3) ∷ []) (λ K. refl) refl c.there.ensures.below c.requires.begins (omega (arith, yes, four)) (one_allowed good.0, (subst (AllAllowed g.W.Way.way F.component 4 3 (g.W.Way.units c.args.src.now)) once good.1, tt)) (moves_apart g.W.Way.way 4 1 3 [] ((2, 1) ∷ []) c.keep_color.ensures)
