-- `round_trip::checked` meets its contract.
use Rattle.round_trip.specs.RoundTripLaws.{table_checked_lem}
use Rattle.format.specs.LeafLaws.{known_below}
use mir.Syntax.{w32}
use Rattle.round_trip.proofs.checked.Goals as goal

pub returns : goal.returns
returns c = table_checked_lem (known_below w32 c.args.bodies.now c.type_inv.bodies) c.check.ensures
