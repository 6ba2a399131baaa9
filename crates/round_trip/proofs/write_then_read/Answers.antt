-- `round_trip::write_then_read` meets its contract.
use lib.Seq.{length-take-le}
use mathlib.Core.Path.{sym}
use Rattle.round_trip.specs.RoundTripLaws.{table_refused_lem, length-fits, table_back}
use Rattle.format.specs.LeafLaws.{known_below}
use native.Mathlib.Omega.{arith}
use mir.Syntax.{w32}
use Rattle.round_trip.proofs.write_then_read.Goals as goal

pub returns-then-written-ne0 : goal.returns-then-written-ne0
returns-then-written-ne0 c = table_refused_lem c.write-written.ensures c.if-written-ne0.true

pub slice_bounds-read-end : goal.slice_bounds-read-end
slice_bounds-read-end c =
    omega (arith, length-fits c.write-written.ensures (known_below w32 c.args.bodies.now c.type_inv.bodies) c.if-written-ne0.false)

pub slice_bounds-read-end-2 : goal.slice_bounds-read-end-2
slice_bounds-read-end-2 c =
    sym (length-take-le c.write-written.result.offset _ (length-fits c.write-written.ensures (known_below w32 c.args.bodies.now c.type_inv.bodies) c.if-written-ne0.false))

pub returns : goal.returns
returns c =
    table_back c.write-written.ensures (known_below w32 c.args.bodies.now c.type_inv.bodies) c.if-written-ne0.false c.read-read.ensures
