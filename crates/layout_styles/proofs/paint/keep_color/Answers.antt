use Rattle.ways.specs.NowhereLaws.{Grouped, ahead_small, moves_nowhere}
use Rattle.ways.specs.Picks.{Picks}
use Rattle.ways.specs.PickLaws.{letter_words}
use Rattle.ways.specs.Way.{Way}
use native.Mathlib.Omega.{arith}
use Prim.Native.Nat.{ℕ, ◌+◌, ◌*◌}
use mathlib.Core.List.{[], ◌∷◌}
use mathlib.Core.Path.{refl}
use Rattle.layout_styles.proofs.paint.keep_color.Goals as goal

-- The letter and the words of a colour.
grouped : {W : Way} → Picks W.source → Picks W.target → (count : ℕ) → Grouped W (2 + 4 * count) (1 + count) ((2, 1) ∷ (4, count) ∷ [])
grouped sources targets count = record { source = omega (arith, letter_words sources count); target = omega (arith, letter_words targets count); sized = refl }

pub ahead-requires : goal.ahead-requires
ahead-requires g c =
    ahead_small (grouped {W = g.W.Way.way} g.met.W.Way.sources g.met.W.Way.targets c.args.count) c.requires.begins (omega (arith, letter_words g.met.W.Way.sources c.args.count, c.requires.way_in_bounds.0))

pub returns-then-dst-eq0 : goal.returns-then-dst-eq0
returns-then-dst-eq0 g c =
    moves_nowhere (grouped {W = g.W.Way.way} g.met.W.Way.sources g.met.W.Way.targets c.args.count) (omega (arith, g.met.W.Way.kept_length c.args.dst.now, c.if-dst-eq0.true)) c.ahead.ensures
