-- `round_trip::read_then_write` meets its contract.
use lib.Seq.{length-take-le}
use Prim.Native.Nat.{◌*◌}
use mathlib.Core.Path.{sym}
use Rattle.round_trip.specs.RoundTripLaws.{file-refused, file-back}
use Rattle.jdr.specs.WithinLaws.{read_within}
use Rattle.format.specs.LeafLaws.{known_below}
use native.Mathlib.Omega.{arith}
use mir.Syntax.{w8}
use Rattle.round_trip.proofs.read_then_write.Goals as goal

pub returns-then-read-ne0 : goal.returns-then-read-ne0
returns-then-read-ne0 c = file-refused c.read-read.ensures c.if-read-ne0.true

pub slice_bounds-write-end : goal.slice_bounds-write-end
slice_bounds-write-end c =
    let within = read_within c.type_inv.file c.read-read.ensures c.if-read-ne0.false in omega (arith, within.rows_fit, c.contents-1.given)

pub slice_bounds-write-end-2 : goal.slice_bounds-write-end-2
slice_bounds-write-end-2 c =
    let within = read_within c.type_inv.file c.read-read.ensures c.if-read-ne0.false in sym (length-take-le (4 * c.read-read.result.rows) _ (omega (arith, within.rows_fit, c.contents-1.given)))

pub slice_bounds-write-end-3 : goal.slice_bounds-write-end-3
slice_bounds-write-end-3 c =
    let within = read_within c.type_inv.file c.read-read.ensures c.if-read-ne0.false in omega (arith, within.words-fit, c.bodies-1.given)

pub slice_bounds-write-end-4 : goal.slice_bounds-write-end-4
slice_bounds-write-end-4 c =
    let within = read_within c.type_inv.file c.read-read.ensures c.if-read-ne0.false in sym (length-take-le c.read-read.result.words _ (omega (arith, within.words-fit, c.bodies-1.given)))

pub returns : goal.returns
returns c =
    file-back c.read-read.ensures (known_below w8 c.args.file.now c.type_inv.file) c.if-read-ne0.false c.write-written.ensures
