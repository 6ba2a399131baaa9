use Rattle.from_sheet.specs.Way.{units}
use Rattle.format.specs.PackedLaws.{length-unpacked}
use Rattle.memory.specs.CharLaws.{mixed_none, mixed_more, mixed_chars}
use Prim.Native.Nat.{ℕ}
use mathlib.Core.Path.{◌≡◌}
use native.Mathlib.Omega.{arith}
use Rattle.from_sheet.proofs.all_chars.Goals as goal

pub loop-i-init : goal.loop-i-init
loop-i-init c = mixed_none (units c.args.src.now) c.args.from

pub overflow_add-from : goal.overflow_add-from
overflow_add-from c = omega (arith, c.requires, c.loop-i-test.true, length-unpacked 4 c.args.src.now)

pub loop-i-preserved : goal.loop-i-preserved
loop-i-preserved c = mixed_more (units c.args.src.now) c.args.from c.loop-i.i c.loop-i.all c.exchanged_word_in-all.ensures c.loop-i.invariant

pub returns : goal.returns
returns c =
    let at_end : ◌≡◌ {A = ℕ} c.loop-i.i c.args.count = omega (arith, c.loop-i.auto.i-end, c.loop-i-test.false) in mixed_chars (units c.args.src.now) c.args.from c.args.count c.loop-i.all (rw at_end at c.loop-i.invariant)
