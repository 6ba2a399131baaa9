-- `reader::objects::leaf_fields` meets its contract.
use native.Mathlib.Omega.{arith}
use mir.Syntax.{w8}
use Rattle.reader.specs.BodyLaws.{body_grows, row_room}
use Rattle.format.specs.LeafLaws.{known_below}
use Rattle.drawing.specs.LeafLayout.{leaf_body}
use Rattle.reader.proofs.objects.leaf_fields.Goals as goal

pub overflow_sub-behind : goal.overflow_sub-behind
overflow_sub-behind c =
    let grows = body_grows (leaf_body c.args.version c.args.letter) (known_below w8 c.args.file.now c.type_inv.file) c.requires.inside c.leaf_body-behind.ensures (omega (arith, c.if-behind-ge-REFUSED.false)) in (row_room c.args.row c.args.to c.requires (omega arith) (omega arith) grows).0

pub put_row-requires : goal.put_row-requires
put_row-requires c =
    let grows = body_grows (leaf_body c.args.version c.args.letter) (known_below w8 c.args.file.now c.type_inv.file) c.requires.inside c.leaf_body-behind.ensures (omega (arith, c.if-behind-ge-REFUSED.false)) in (row_room c.args.row c.args.to c.requires (omega arith) (omega arith) grows).1
