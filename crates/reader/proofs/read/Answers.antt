-- `reader::read` meets its contract.
use native.Mathlib.Omega.{arith}
use mir.Syntax.{w8}
use Rattle.reader.specs.ReadLaws.{judged-refused, judged_good, read_refused}
use Rattle.format.specs.LeafLaws.{known_below}
use Rattle.reader.proofs.read.Goals as goal

pub overflow_cast-judged : goal.overflow_cast-judged
overflow_cast-judged c =
    let below = known_below w8 c.args.file.now c.type_inv.file in
    omega (arith, (judged-refused c.pass_file-judged.ensures below c.if-end-ge-REFUSED.true).small)

pub counted-requires : goal.counted-requires
counted-requires c =
    let below = known_below w8 c.args.file.now c.type_inv.file in
    ((judged-refused c.pass_file-judged.ensures below c.if-end-ge-REFUSED.true).near, omega arith, omega arith)

pub returns-then-end-ge-REFUSED : goal.returns-then-end-ge-REFUSED
returns-then-end-ge-REFUSED c =
    let below = known_below w8 c.args.file.now c.type_inv.file in
    read_refused c.args.file.now c.args.contents.now c.args.bodies.now below (judged-refused c.pass_file-judged.ensures below c.if-end-ge-REFUSED.true) c.counted.ensures

pub store_counted-requires : goal.store_counted-requires
store_counted-requires c = judged_good c.pass_file-judged.ensures (omega (arith, c.if-end-ge-REFUSED.false))
