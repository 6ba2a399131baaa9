-- `fields::fault::dash_fault` meets its contract: the test that was made is the one that the definition has.
use mathlib.Core.Path.{◌≡◌, sym, ◌∙◌}
use mathlib.Core.Bool.{true, false}
use lib.IntN.{pos}
use lib.Signed.{le_z}
use mir.Syntax.{w32}
use mir.Val.{to_z}
use mir.Facts.{to_z-of_z}
use Rattle.fields.proofs.fault.dash_fault.Goals as goal

pub returns-then-reaches : goal.returns-then-reaches
returns-then-reaches c =
    let reached : le_z (pos 0) (to_z w32 c.args.word) ≡ true = rw (to_z-of_z (record { sfits = c.signed-number.type_inv }), c.signed-number.ensures) at (sym c.reaches.ensures ∙ c.if-reaches.true) in
    simp (c.unless.ensures, reached)

pub returns : goal.returns
returns c =
    let missed : le_z (pos 0) (to_z w32 c.args.word) ≡ false = rw (to_z-of_z (record { sfits = c.signed-number.type_inv }), c.signed-number.ensures) at (sym c.reaches.ensures ∙ c.if-reaches.false) in
    simp missed
