use Rattle.round_trip.specs.SheetTripLaws.{parts_fit, sheet-refused, sheet-back}
use native.Mathlib.Omega.{arith}
use mathlib.Core.Path.{sym}
use Prim.Native.Nat.{◌*◌}
use lib.Seq.{length-take-le}
use Rattle.round_trip.proofs.sheet_trips.read_then_write.Goals as goal

pub returns-then-read-ne0 : goal.returns-then-read-ne0
returns-then-read-ne0 c = sheet-refused c.sheet_read-read.ensures c.if-read-ne0.true

pub slice_bounds-sheet_write-end : goal.slice_bounds-sheet_write-end
slice_bounds-sheet_write-end c = let fit = parts_fit c.sheet_read-read.ensures c.if-read-ne0.false in omega (arith, fit.0, c.contents-1.given)

pub slice_bounds-sheet_write-end-2 : goal.slice_bounds-sheet_write-end-2
slice_bounds-sheet_write-end-2 c =
    let fit = parts_fit c.sheet_read-read.ensures c.if-read-ne0.false in sym (length-take-le (4 * c.sheet_read-read.result.rows) _ (omega (arith, fit.0, c.contents-1.given)))

pub slice_bounds-sheet_write-end-3 : goal.slice_bounds-sheet_write-end-3
slice_bounds-sheet_write-end-3 c = let fit = parts_fit c.sheet_read-read.ensures c.if-read-ne0.false in omega (arith, fit.1, c.bodies-1.given)

pub slice_bounds-sheet_write-end-4 : goal.slice_bounds-sheet_write-end-4
slice_bounds-sheet_write-end-4 c =
    let fit = parts_fit c.sheet_read-read.ensures c.if-read-ne0.false in sym (length-take-le c.sheet_read-read.result.words _ (omega (arith, fit.1, c.bodies-1.given)))

pub returns : goal.returns
returns c = sheet-back c.sheet_read-read.ensures c.if-read-ne0.false c.sheet_write-written.ensures
