-- `table_walk::objects::own_body` meets its contract.
use Rattle.walks.specs.OwnWalkLaws.{own_walks}
use Rattle.walks.specs.BodyLaws.{body_forward}
use Rattle.drawing.specs.LeafLayout.{object_end}
use native.Mathlib.Omega.{arith}
use Rattle.table_walk.proofs.TableLaws.{laid}
use Rattle.table_walk.proofs.objects.own_body.Goals as goal

pub rowed-requires : goal.rowed-requires
rowed-requires g c =
    record { row_width_in_bounds = c.requires.row_width_in_bounds; start_le_at = λ on. omega (arith, body_forward (object_end c.args.version) c.are_words.ensures (omega (arith, c.if-at-source_length.true, c.source_length.ensures)) (laid g.met.W.Words.of_table g.met.W.Words.bytes (object_end c.args.version) c.group_end-ended.ensures) on) }

pub returns-then-at-source_length : goal.returns-then-at-source_length
returns-then-at-source_length g c =
    own_walks c.args.version c.args.parent (g.C.Cell.cells c.args.contents.now) (g.W.Way.units c.args.words.now) c.args.row c.args.next c.args.at c.requires.row_width_in_bounds c.are_words.ensures c.requires.stands c.requires.counted (omega (arith, c.if-at-source_length.true, c.source_length.ensures)) (laid g.met.W.Words.of_table g.met.W.Words.bytes (object_end c.args.version) c.group_end-ended.ensures) c.rowed.ensures
