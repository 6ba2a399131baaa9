use Rattle.pieces.proofs.SessionLaws.{opened_stands}
use mathlib.Core.Path.{refl}
use Rattle.session.proofs.verdict.opened.Goals as goal

pub returns : goal.returns
returns c =
    record { says = c.answered.ensures; fresh = refl; empty = (refl, refl); stands = opened_stands _ refl refl refl refl refl refl refl refl }
