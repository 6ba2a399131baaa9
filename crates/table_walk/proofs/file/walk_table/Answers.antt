-- `table_walk::file::walk_table` meets its contract.
use mathlib.Core.Path.{refl, ◌∙◌}
use native.Mathlib.Omega.{arith}
use Rattle.drawing.specs.Limits.{last_minor}
use Rattle.drawing.specs.Fields.{integer_in}
use Rattle.drawing.specs.Settings.{settings}
use Rattle.walks.specs.BodyLaws.{body-found, body_unfound, field_found, field_unfound}
use Rattle.walks.specs.FileWalkLaws.{table_lost, version_unfound, version-small, settings_unfound, outer_stands, table_walks}
use Rattle.table_walk.proofs.TableLaws.{asked, laid}
use Rattle.table_walk.proofs.file.walk_table.Goals as goal

pub returns-then-judged-ge-REFUSED : goal.returns-then-judged-ge-REFUSED
returns-then-judged-ge-REFUSED g c =
    table_lost (version_unfound (g.C.Cell.cells c.args.contents.now) (g.W.Way.units c.args.words.now) (field_unfound (integer_in 0 last_minor) c.are_words.ensures (omega arith) (asked g.met.W.Words.of_table g.met.W.Words.bytes c.integer_to-told.ensures) c.if-judged-ge-REFUSED.true)) c.no_table.ensures refl

pub put_head-requires : goal.put_head-requires
put_head-requires g c =
    version-small (g.C.Cell.cells c.args.contents.now) (g.W.Way.units c.args.words.now) (field_found (integer_in 0 last_minor) c.are_words.ensures (omega arith) (asked g.met.W.Words.of_table g.met.W.Words.bytes c.integer_to-told.ensures) (omega (arith, c.if-judged-ge-REFUSED.false)))

pub overflow_cast-version : goal.overflow_cast-version
overflow_cast-version g c =
    omega (arith, version-small (g.C.Cell.cells c.args.contents.now) (g.W.Way.units c.args.words.now) (field_found (integer_in 0 last_minor) c.are_words.ensures (omega arith) (asked g.met.W.Words.of_table g.met.W.Words.bytes c.integer_to-told.ensures) (omega (arith, c.if-judged-ge-REFUSED.false))))

pub returns-then-settled-ge-REFUSED : goal.returns-then-settled-ge-REFUSED
returns-then-settled-ge-REFUSED g c =
    let told = field_found (integer_in 0 last_minor) c.are_words.ensures (omega arith) (asked g.met.W.Words.of_table g.met.W.Words.bytes c.integer_to-told.ensures) (omega (arith, c.if-judged-ge-REFUSED.false)) in table_lost (settings_unfound (g.C.Cell.cells c.args.contents.now) (g.W.Way.units c.args.words.now) told (body_unfound (settings c.integer_to-told.result.value) c.are_words.ensures told.inside (laid g.met.W.Words.of_table g.met.W.Words.bytes (settings c.integer_to-told.result.value) c.settings-settled.ensures) c.if-settled-ge-REFUSED.true)) c.no_table-then-settled-ge-REFUSED.ensures (c.out-2-1.given ∙ c.out-1.given)

pub overflow_cast-version-2 : goal.overflow_cast-version-2
overflow_cast-version-2 g c =
    omega (arith, version-small (g.C.Cell.cells c.args.contents.now) (g.W.Way.units c.args.words.now) (field_found (integer_in 0 last_minor) c.are_words.ensures (omega arith) (asked g.met.W.Words.of_table g.met.W.Words.bytes c.integer_to-told.ensures) (omega (arith, c.if-judged-ge-REFUSED.false))))

pub outer-requires : goal.outer-requires
outer-requires g c =
    let told = field_found (integer_in 0 last_minor) c.are_words.ensures (omega arith) (asked g.met.W.Words.of_table g.met.W.Words.bytes c.integer_to-told.ensures) (omega (arith, c.if-judged-ge-REFUSED.false)) in let settled = body-found (settings c.integer_to-told.result.value) c.are_words.ensures told.inside (laid g.met.W.Words.of_table g.met.W.Words.bytes (settings c.integer_to-told.result.value) c.settings-settled.ensures) (omega (arith, c.if-settled-ge-REFUSED.false)) in outer_stands (g.C.Cell.cells c.args.contents.now) (g.W.Way.units c.args.words.now) told settled.1 c.requires.words_in_bounds c.requires.contents_len_bound

pub returns : goal.returns
returns g c =
    let told = field_found (integer_in 0 last_minor) c.are_words.ensures (omega arith) (asked g.met.W.Words.of_table g.met.W.Words.bytes c.integer_to-told.ensures) (omega (arith, c.if-judged-ge-REFUSED.false)) in let settled = body-found (settings c.integer_to-told.result.value) c.are_words.ensures told.inside (laid g.met.W.Words.of_table g.met.W.Words.bytes (settings c.integer_to-told.result.value) c.settings-settled.ensures) (omega (arith, c.if-settled-ge-REFUSED.false)) in table_walks (g.C.Cell.cells c.args.contents.now) (g.W.Way.units c.args.words.now) told settled.1 c.are_words.ensures c.put_head.ensures c.outer.ensures
