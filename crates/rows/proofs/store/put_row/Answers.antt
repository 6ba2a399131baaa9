-- `rows::store::put_row` meets its contract.
use Rattle.rows.specs.Stores.{row-stored, row-short}
use Prim.Native.Nat.{◌*◌}
use lib.ListN.{length-set}
use native.Mathlib.Omega.{arith}
use Rattle.rows.proofs.store.put_row.Goals as goal

pub returns-then-contents-at : goal.returns-then-contents-at
returns-then-contents-at c =
    row-short c.args.contents.now (4 * c.args.place) c.args.kind c.args.parent c.args.start c.args.size c.if-contents-at.true

pub bounds-contents-at-2 : goal.bounds-contents-at-2
bounds-contents-at-2 c = simp length-set (omega arith)

pub bounds-contents-at-3 : goal.bounds-contents-at-3
bounds-contents-at-3 c = simp length-set (omega arith)

pub bounds-contents-at-4 : goal.bounds-contents-at-4
bounds-contents-at-4 c = simp length-set (omega arith)

pub returns : goal.returns
returns c =
    row-stored c.args.contents.now (4 * c.args.place) c.args.kind c.args.parent c.args.start c.args.size (omega (arith, c.if-contents-at.false))
