use mir.Syntax.{w32}
use lib.ListN.{length}
use native.Mathlib.Omega.{arith}
use Prim.Native.Nat.{◌^◌}
use mathlib.Core.Path.{refl}
use Rattle.format.specs.LeafLaws.{known_below}
use Rattle.memory.specs.Runs.{Fitting}
use Rattle.memory.specs.FitLaws.{run-stored, run_fitting, halves-stored}
use Rattle.memory.specs.SizeLaws.{run-two}
use Rattle.memory.proofs.write.write_run.Goals as goal

pub returns-then-size-eq8 : goal.returns-then-size-eq8
returns-then-size-eq8 c =
    let f : Fitting (length c.args.out.now) c.args.to 8 c.args.count c.fitting-n.result = rw c.if-size-eq8.true at c.fitting-n.ensures in
    let i = rw c.if-size-eq8.true at c.requires.size_value.1 in
    rw c.if-size-eq8.true (halves-stored (2 ^ 32) 1 256 4 refl (omega arith) c.args.words.now c.args.out.now (known_below w32 c.args.words.now c.type_inv.words) c.args.at c.args.to f i c.write_fields.ensures)

pub returns-then-size-eq4 : goal.returns-then-size-eq4
returns-then-size-eq4 c =
    let f : Fitting (length c.args.out.now) c.args.to 4 c.args.count c.fitting-n.result = rw c.if-size-eq4.true at c.fitting-n.ensures in
    rw c.if-size-eq4.true (run-stored (2 ^ 32) 1 256 4 c.args.words.now c.args.out.now c.args.at c.args.to f c.write_fields-then-size-eq4.ensures)

pub returns : goal.returns
returns c =
    let two = run-two c.args.size c.requires.size_value.0 c.if-size-eq8.false c.if-size-eq4.false in
    let f : Fitting (length c.args.out.now) c.args.to 2 c.args.count c.fitting-n.result = rw two at c.fitting-n.ensures in
    rw two (run_fitting (2 ^ 32) 1 256 2 c.args.words.now c.args.out.now c.args.at c.args.to f c.write_chars.ensures)
