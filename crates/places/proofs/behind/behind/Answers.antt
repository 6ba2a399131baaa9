-- `places::behind::behind` meets its contract.
use mir.Syntax.{w32}
use native.Mathlib.Omega.{arith}
use Rattle.format.specs.LeafLaws.{known_below}
use Rattle.places.specs.PartLaws.{passed, not_passed}
use Rattle.places.specs.Parts.{layout_of}
use Rattle.places.proofs.behind.behind.Goals as goal

pub returns-then-to-ge-REFUSED : goal.returns-then-to-ge-REFUSED
returns-then-to-ge-REFUSED c =
    not_passed (layout_of c.args.part c.args.version) (known_below w32 c.args.words.now c.type_inv.words) c.requires.0 c.pass-to.ensures c.if-to-ge-REFUSED.true

pub returns : goal.returns
returns c =
    passed (layout_of c.args.part c.args.version) (known_below w32 c.args.words.now c.type_inv.words) c.requires.0 c.pass-to.ensures (omega (arith, c.if-to-ge-REFUSED.false))
