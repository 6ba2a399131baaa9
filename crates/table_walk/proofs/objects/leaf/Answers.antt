-- `table_walk::objects::leaf` meets its contract.
use mathlib.Core.Path.{sym, ◌∙◌}
use Rattle.drawing.specs.LeafLayout.{leaf_body}
use Rattle.walks.specs.BodyLaws.{body_forward}
use Rattle.walks.specs.LeafWalkLaws.{leaf_walks}
use Rattle.table_walk.proofs.TableLaws.{laid, stored}
use Rattle.table_walk.proofs.objects.leaf.Goals as goal

pub rowed-requires : goal.rowed-requires
rowed-requires g c =
    record { row_width_in_bounds = c.requires.row_width_in_bounds; start_le_at = λ on. body_forward (leaf_body c.args.version c.letter_of-letter.result) c.are_words.ensures c.requires.stands.inside (laid g.met.W.Words.of_table g.met.W.Words.bytes (leaf_body c.args.version c.letter_of-letter.result) c.leaf_body-body.ensures) on }

pub returns-then-is_leaf : goal.returns-then-is_leaf
returns-then-is_leaf g c =
    leaf_walks (g.C.Cell.cells c.args.contents.now) (g.W.Way.units c.args.words.now) c.args.version c.args.parent c.args.row c.args.at c.requires.row_width_in_bounds c.kind_in-kind.ensures (sym c.is_leaf.ensures ∙ c.if-is_leaf.true) c.letter_of-letter.ensures.0 c.are_words.ensures c.requires.stands (stored g.met.W.Words.of_table g.met.W.Words.bytes 2 c.args.to c.letter_of-letter.result c.args.out.now c.put.ensures) (laid g.met.W.Words.of_table g.met.W.Words.bytes (leaf_body c.args.version c.letter_of-letter.result) c.leaf_body-body.ensures) c.rowed.ensures
