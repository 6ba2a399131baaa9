-- `lister::read` takes only rows of a table that lies within the lent contents.
use Rattle.std.proofs.Common.{arith}
use Rattle.jdr.specs.WithinLaws.{read_within}
use Rattle.lister.proofs.read.Goals as goal

pub shared_ref_as_front-rows : goal.shared_ref_as_front-rows
shared_ref_as_front-rows c =
    let within = read_within c.type_inv.file c.read-answer.ensures c.if-answer-ne0.false in
    omega (arith, within.rows_fit, c.fits-contents)
