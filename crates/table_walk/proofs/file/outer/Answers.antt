-- `table_walk::file::outer` meets its contract.
use mathlib.Core.Path.{sym, ◌∙◌}
use lib.ListN.{length}
use borrow.Author.Tests.{leb-true}
use Rattle.walks.specs.FileWalkLaws.{outer-whole, outer_partly}
use Rattle.table_walk.proofs.file.outer.Goals as goal

pub returns-then-is_whole : goal.returns-then-is_whole
returns-then-is_whole g c =
    outer-whole c.args.version (g.C.Cell.cells c.args.contents.now) (g.W.Way.units c.args.words.now) c.args.at c.args.to (leb-true 4 (length (g.C.Cell.cells c.args.contents.now)) (sym c.has_row.ensures ∙ c.if-has_row.true)) c.group-walked.ensures (sym c.is_whole.ensures ∙ c.if-is_whole.true)

pub returns-then-has_row : goal.returns-then-has_row
returns-then-has_row g c =
    outer_partly c.args.version (g.C.Cell.cells c.args.contents.now) (g.W.Way.units c.args.words.now) c.args.at c.args.to (leb-true 4 (length (g.C.Cell.cells c.args.contents.now)) (sym c.has_row.ensures ∙ c.if-has_row.true)) c.group-walked.ensures (sym c.is_whole.ensures ∙ c.if-is_whole.false) c.no_table.ensures
