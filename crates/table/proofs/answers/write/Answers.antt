-- `table::answers::write` meets its contract.
use mathlib.Core.Path.{refl, sym, subst}
use mir.Syntax.{w32}
use native.Mathlib.Omega.{arith}
use Rattle.format.specs.LeafLaws.{known_below}
use Rattle.promises.specs.Promises.{Writes}
use Rattle.table.specs.AnswerLaws.{write_short, within-limits, write_whole}
use Rattle.table.proofs.answers.write.Goals as goal

pub returns-then-file-counts : goal.returns-then-file-counts
returns-then-file-counts c =
    subst (λ a. Writes c.args.contents.now c.args.words.now c.args.file.now a c.args.file.now) (sym c.refused-then-file-counts.ensures)
    (write_short c.args.contents.now c.args.words.now (known_below w32 c.args.words.now c.type_inv.words) c.in-Some.ensures refl c.args.file.now c.if-file-counts.true)

pub walk_table-requires : goal.walk_table-requires
walk_table-requires c =
    let all = within-limits c.args.contents.now c.args.words.now (known_below w32 c.args.words.now c.type_inv.words) c.in-Some.ensures refl in
    record { contents_len_bound = all.0; words_in_bounds = all.1 }

pub returns : goal.returns
returns c =
    subst (λ a. Writes c.args.contents.now c.args.words.now c.args.file.now a c.walk_table.new.out) (sym c.answer.ensures)
    (write_whole c.args.contents.now c.args.words.now (known_below w32 c.args.words.now c.type_inv.words) c.in-Some.ensures refl (λ short. omega (arith, short, c.if-file-counts.false)) c.walk_table.ensures)
