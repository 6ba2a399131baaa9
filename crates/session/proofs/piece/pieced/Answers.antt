use Rattle.session.specs.Giving.{pieces_given}
use Rattle.format.specs.LeafLaws.{known_below}
use mir.Syntax.{w8}
use mathlib.Core.Path.{sym, ◌∙◌}
use native.Mathlib.Omega.{arith}
use Rattle.session.proofs.piece.pieced.Goals as goal

pub returns : goal.returns
returns c =
    pieces_given (sym c.is_unfit.ensures ∙ c.if-is_unfit.false) (omega arith) (known_below w8 c.args.bytes.now c.type_inv.bytes) c.given.ensures c.answered-2.ensures
