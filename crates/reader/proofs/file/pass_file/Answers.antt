-- `reader::file::pass_file` meets its contract.
use native.Mathlib.Omega.{arith}
use mir.Syntax.{w8}
use mathlib.Core.Path.{refl}
use Rattle.reader.specs.FileLaws.{head-refused, head_ready, version-small, settings-refused, settings_stand, file_descends}
use Rattle.format.specs.LeafLaws.{known_below}
use Rattle.reader.proofs.file.pass_file.Goals as goal

pub returns-then-behind-ge-REFUSED : goal.returns-then-behind-ge-REFUSED
returns-then-behind-ge-REFUSED c =
    head-refused c.args.file.now (known_below w8 c.args.file.now c.type_inv.file) c.args.contents.now c.args.bodies.now c.head-told.ensures c.if-behind-ge-REFUSED.true c.stopped.ensures

pub put-requires : goal.put-requires
put-requires c =
    (omega arith, refl, version-small c.args.file.now (known_below w8 c.args.file.now c.type_inv.file) c.args.contents.now c.args.bodies.now c.head-told.ensures (omega (arith, c.if-behind-ge-REFUSED.false)))

pub overflow_cast-version : goal.overflow_cast-version
overflow_cast-version c =
    omega (arith, version-small c.args.file.now (known_below w8 c.args.file.now c.type_inv.file) c.args.contents.now c.args.bodies.now c.head-told.ensures (omega (arith, c.if-behind-ge-REFUSED.false)))

pub settings-settled-requires : goal.settings-settled-requires
settings-settled-requires c =
    head_ready c.args.file.now (known_below w8 c.args.file.now c.type_inv.file) c.args.contents.now c.args.bodies.now c.head-told.ensures (omega (arith, c.if-behind-ge-REFUSED.false))

pub returns-then-settled-ge-REFUSED : goal.returns-then-settled-ge-REFUSED
returns-then-settled-ge-REFUSED c =
    settings-refused c.args.file.now (known_below w8 c.args.file.now c.type_inv.file) c.args.contents.now c.args.bodies.now c.head-told.ensures (omega (arith, c.if-behind-ge-REFUSED.false)) c.put.ensures c.settings-settled.ensures c.if-settled-ge-REFUSED.true c.stopped-then-settled-ge-REFUSED.ensures

pub overflow_cast-version-2 : goal.overflow_cast-version-2
overflow_cast-version-2 c =
    omega (arith, version-small c.args.file.now (known_below w8 c.args.file.now c.type_inv.file) c.args.contents.now c.args.bodies.now c.head-told.ensures (omega (arith, c.if-behind-ge-REFUSED.false)))

pub outer-requires : goal.outer-requires
outer-requires c =
    settings_stand c.args.file.now (known_below w8 c.args.file.now c.type_inv.file) c.args.contents.now c.args.bodies.now c.head-told.ensures (omega (arith, c.if-behind-ge-REFUSED.false)) c.put.ensures c.settings-settled.ensures (omega (arith, c.if-settled-ge-REFUSED.false))

pub returns : goal.returns
returns c =
    file_descends c.args.file.now (known_below w8 c.args.file.now c.type_inv.file) c.args.contents.now c.args.bodies.now c.head-told.ensures (omega (arith, c.if-behind-ge-REFUSED.false)) c.put.ensures c.settings-settled.ensures (omega (arith, c.if-settled-ge-REFUSED.false)) c.outer.ensures
