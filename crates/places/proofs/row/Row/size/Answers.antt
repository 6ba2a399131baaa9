-- `places::row::Row::size` meets its contract.
use native.Mathlib.Omega.{arith}
use Rattle.places.specs.RowLaws.{body-inside}
use Rattle.places.proofs.row.Row.size.Goals as goal

pub returns-clause-inside : goal.returns-clause-inside
returns-clause-inside c = omega (arith, body-inside c.args.self.now.stands, c.size_in.ensures)
