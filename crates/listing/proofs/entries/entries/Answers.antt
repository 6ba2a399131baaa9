-- `listing::entries::entries` meets its contract.
use Rattle.listing.specs.Entries.{Labels, Entered}
use Rattle.listing.specs.EntryLaws.{labels-as, gather_one, gather_all, entered, not_entered}
use Rattle.places.specs.RowLaws.{row_here, rows-small}
use native.Mathlib.Omega.{arith}
use Rattle.listing.proofs.entries.entries.Goals as goal
use Rattle.listing.proofs.entries.entries.Goals.{then-is_labelled, else-is_labelled}

pub row_of-requires : goal.row_of-requires
row_of-requires c = row_here c.loop-row.invariant.table c.loop-row.row (omega (arith, c.loop-row-test.true))

pub store_entry-requires : goal.store_entry-requires
store_entry-requires c = let small = rows-small c.loop-row.invariant.table in omega (arith, small, c.loop-row-test.true)

pub loop-row-preserved : goal.loop-row-preserved
loop-row-preserved c =
    let row = c.row_of.ensures in
    let labels : Labels c.args.contents.now c.args.words.now c.args.version c.loop-row.row c.args.label.now c.is_labelled.result =
    labels-as row.contents_are row.words_are row.version_is row.row_is c.is_labelled.ensures in
    let one : Entered c.is_labelled.result c.loop-row.count c.loop-row.row c.loop-row.room c.if-is_labelled.room c.if-is_labelled.count =
    elim c.if-is_labelled.branch [
      | then-is_labelled w ↦ rw (w.room-is, w.count-is) (entered w.if-is_labelled.true w.store_entry.ensures)
      | else-is_labelled w ↦ rw (w.room-is, w.count-is) (not_entered w.if-is_labelled.false)
    ] in
    record { table = c.loop-row.invariant.table; gathering = gather_one c.loop-row.invariant.table c.args.label.now c.loop-row.invariant.gathering (omega (arith, c.loop-row-test.true)) labels one; most = omega (arith, c.loop-row-test.true) }

pub returns : goal.returns
returns c =
    gather_all c.loop-row.invariant.table c.args.label.now c.loop-row.invariant.gathering (λ more. omega (arith, more, c.loop-row-test.false)) c.loop-row.invariant.most
