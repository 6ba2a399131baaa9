use Rattle.ways.specs.Moves.{led, moved_ready}
use Rattle.ways.specs.LayoutLaws.{valued-laid, ◌⨾◌}
use Rattle.ways.specs.Way.{source_units}
use lib.ListN.{length}
use native.Mathlib.Omega.{arith}
use Prim.Native.Nat.{◌+◌, ◌*◌, ◌≤◌}
use Rattle.layout.proofs.each.each_of_hsb.Goals as goal

pub hue-taken-requires : goal.hue-taken-requires
hue-taken-requires g c =
    let some : c.args.at + 1 * source_units g.W.Way.way 2 ≤ length (g.W.Way.units c.args.src.now) = omega (arith, c.requires.way_in_bounds.0) in
    moved_ready 2 1 c.requires.begins some (omega arith) (omega arith) c.keep-told.ensures.moved

pub returns : goal.returns
returns g c =
    led c.keep-told.ensures.below c.requires.begins c.requires.way_in_bounds.0 c.keep-told.ensures.moved (valued-laid c.hue-taken.ensures ⨾ c.each_component.ensures)
