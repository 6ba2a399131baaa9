-- `reader::objects::leaf` meets its contract.
use native.Mathlib.Omega.{arith}
use mir.Syntax.{w8}
use mathlib.Core.Path.{sym, ◌∙◌}
use Rattle.reader.specs.ObjectLaws.{leaf_refused, leaf_descends}
use Rattle.format.specs.LeafLaws.{known_below}
use Rattle.reader.proofs.objects.leaf.Goals as goal

pub returns-then-fault-ne0 : goal.returns-then-fault-ne0
returns-then-fault-ne0 c =
    leaf_refused c.args.file.now (known_below w8 c.args.file.now c.type_inv.file) c.args.version c.args.at c.args.parent c.args.row c.args.to c.args.contents.now c.args.bodies.now c.requires c.leaf_fault-fault.ensures (omega (arith, c.if-fault-ne0.true)) c.refusal.ensures c.stopped.ensures

pub returns : goal.returns
returns c =
    leaf_descends c.args.file.now (known_below w8 c.args.file.now c.type_inv.file) c.args.version c.args.at c.args.parent c.args.row c.args.to c.args.contents.now c.args.bodies.now c.requires (sym c.leaf_fault-fault.ensures ∙ c.if-fault-ne0.false) c.char_at-letter.ensures c.leaf_fields.ensures
