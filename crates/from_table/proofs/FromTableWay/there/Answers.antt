use Rattle.from_table.specs.Way.{units_below}
use Rattle.from_table.proofs.FromTableWay.there.Goals as goal

pub returns-clause-below : goal.returns-clause-below
returns-clause-below c = units_below c.args.src.now c.type_inv.src
