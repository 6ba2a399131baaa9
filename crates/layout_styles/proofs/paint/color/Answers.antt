use Rattle.ways.specs.NowhereLaws.{moves_led}
use Rattle.ways.specs.Moves.{AllAllowed}
use Rattle.ways.specs.PickLaws.{letter_words}
use Rattle.drawing.specs.Fields as F
use native.Mathlib.Omega.{arith}
use mathlib.Core.List.{[], ◌∷◌}
use mathlib.Core.Path.{refl, subst}
use Rattle.layout_styles.proofs.paint.color.Goals as goal

pub all_components-requires : goal.all_components-requires
all_components-requires g c =
    let yes = c.there.ensures.fits.yes c.if-there.true in
    (omega (arith, yes, letter_words g.met.W.Way.sources c.args.count, c.past.ensures), c.requires.begins.short)

pub keep_color-requires : goal.keep_color-requires
keep_color-requires g c =
    let yes = c.there.ensures.fits.yes c.if-there.true in
    record { begins = c.requires.begins; way_in_bounds = (omega (arith, yes, letter_words g.met.W.Way.sources c.args.count), c.requires.count_bound.2) }

pub returns-then-all_components : goal.returns-then-all_components
returns-then-all_components g c =
    let yes = c.there.ensures.fits.yes c.if-there.true in
    let all = subst (AllAllowed g.W.Way.way F.component 4 c.args.count (g.W.Way.units c.args.src.now)) c.past.ensures (c.all_components.ensures c.if-all_components.true) in
    moves_led ((F.component, c.args.count) ∷ []) (λ K. refl) refl c.there.ensures.below c.requires.begins (omega (arith, yes, letter_words g.met.W.Way.sources c.args.count)) (all, tt) c.keep_color.ensures
