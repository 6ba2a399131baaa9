use Rattle.round_trip.specs.SheetTripLaws.{table_refused_lem, sheet-fits, table_back}
use native.Mathlib.Omega.{arith}
use mathlib.Core.Path.{sym}
use lib.Seq.{length-take-le}
use Rattle.round_trip.proofs.sheet_trips.write_then_read.Goals as goal

pub returns-then-written-ne0 : goal.returns-then-written-ne0
returns-then-written-ne0 c = table_refused_lem c.sheet_write-written.ensures c.if-written-ne0.true

pub slice_bounds-sheet_read-end : goal.slice_bounds-sheet_read-end
slice_bounds-sheet_read-end c = omega (arith, sheet-fits c.sheet_write-written.ensures c.if-written-ne0.false)

pub slice_bounds-sheet_read-end-2 : goal.slice_bounds-sheet_read-end-2
slice_bounds-sheet_read-end-2 c =
    sym (length-take-le c.sheet_write-written.result.offset _ (sheet-fits c.sheet_write-written.ensures c.if-written-ne0.false))

pub returns : goal.returns
returns c = table_back c.sheet_write-written.ensures c.if-written-ne0.false c.sheet_read-read.ensures
