-- `reader::file::outer` meets its contract.
use native.Mathlib.Omega.{arith}
use mir.Syntax.{w8}
use mathlib.Core.Path.{sym, ◌∙◌}
use Rattle.reader.specs.OuterLaws.{outer-refused, outer_stands, outer-stop, outer_trailing, outer-ends}
use Rattle.format.specs.LeafLaws.{known_below}
use Rattle.reader.proofs.file.outer.Goals as goal

pub returns-then-fault-ne0 : goal.returns-then-fault-ne0
returns-then-fault-ne0 c =
    outer-refused c.args.file.now (known_below w8 c.args.file.now c.type_inv.file) c.args.version c.args.at c.args.to c.args.contents.now c.args.bodies.now c.requires c.outer_fault-fault.ensures (omega (arith, c.if-fault-ne0.true)) c.refusal.ensures c.stopped.ensures

pub group-walked-requires : goal.group-walked-requires
group-walked-requires c =
    outer_stands c.args.file.now (known_below w8 c.args.file.now c.type_inv.file) c.args.version c.args.at c.args.to c.args.contents.now c.args.bodies.now c.requires (sym c.outer_fault-fault.ensures ∙ c.if-fault-ne0.false)

pub returns-then-end-ge-REFUSED : goal.returns-then-end-ge-REFUSED
returns-then-end-ge-REFUSED c =
    outer-stop c.args.file.now (known_below w8 c.args.file.now c.type_inv.file) c.args.version c.args.at c.args.to c.args.contents.now c.args.bodies.now c.requires (sym c.outer_fault-fault.ensures ∙ c.if-fault-ne0.false) c.group-walked.ensures c.if-end-ge-REFUSED.true

pub returns-then-end-file : goal.returns-then-end-file
returns-then-end-file c =
    outer_trailing c.args.file.now (known_below w8 c.args.file.now c.type_inv.file) c.args.version c.args.at c.args.to c.args.contents.now c.args.bodies.now c.requires (sym c.outer_fault-fault.ensures ∙ c.if-fault-ne0.false) c.group-walked.ensures (omega (arith, c.if-end-ge-REFUSED.false)) c.if-end-file.true c.refusal-then-end-file.ensures c.stopped-then-end-file.ensures

pub returns : goal.returns
returns c =
    outer-ends c.args.file.now (known_below w8 c.args.file.now c.type_inv.file) c.args.version c.args.at c.args.to c.args.contents.now c.args.bodies.now c.requires (sym c.outer_fault-fault.ensures ∙ c.if-fault-ne0.false) c.group-walked.ensures (omega (arith, c.if-end-ge-REFUSED.false)) c.if-end-file.false
