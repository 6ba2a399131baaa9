use Rattle.from_file.specs.Way.{units_below}
use Rattle.from_file.proofs.FromFileWay.there.Goals as goal

pub returns-clause-below : goal.returns-clause-below
returns-clause-below c = units_below c.args.src.now c.type_inv.src
