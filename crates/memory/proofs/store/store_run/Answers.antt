use mir.Syntax.{w8}
use lib.ListN.{length}
use native.Mathlib.Omega.{arith}
use Prim.Native.Nat.{◌^◌}
use mathlib.Core.Path.{refl}
use Rattle.format.specs.LeafLaws.{known_below}
use Rattle.memory.specs.Runs.{Fitting}
use Rattle.memory.specs.FitLaws.{run-stored, halves-stored}
use Rattle.memory.specs.SizeLaws.{run_short, short_word}
use Rattle.memory.proofs.store.store_run.Goals as goal

pub returns-then-size-eq8 : goal.returns-then-size-eq8
returns-then-size-eq8 c =
    let f : Fitting (length c.args.bodies.now) c.args.to 2 c.args.count c.fitting-n.result = rw c.if-size-eq8.true at c.fitting-n.ensures in
    let i = rw c.if-size-eq8.true at c.requires.1 in
    rw c.if-size-eq8.true (halves-stored 256 4 (2 ^ 32) 1 refl (omega arith) c.args.file.now c.args.bodies.now (known_below w8 c.args.file.now c.type_inv.file) c.args.at c.args.to f i c.store_fields.ensures)

pub returns : goal.returns
returns c =
    let s = run_short c.args.size c.requires.0 c.if-size-eq8.false in
    let f : Fitting (length c.args.bodies.now) c.args.to 1 c.args.count c.fitting-n.result = rw (short_word c.args.size s) at c.fitting-n.ensures in
    rw (short_word c.args.size s) (run-stored 256 c.args.size (2 ^ 32) 1 c.args.file.now c.args.bodies.now c.args.at c.args.to f c.store_fields-2.ensures)
