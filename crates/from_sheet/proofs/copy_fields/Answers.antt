use Rattle.from_sheet.specs.Way.{way, units}
use Rattle.ways.specs.Way.{source_units, value_at}
use Rattle.memory.specs.StoreLaws.{storing_begins, storing_again, storing_from, storing_ends, one_inside, one-fits}
use Rattle.memory.specs.SizeLaws.{each-run, run-size}
use Rattle.memory.specs.Sizes.{is_field}
use Rattle.format.specs.PackedLaws.{length-unpacked}
use Rattle.format.specs.Pass.{splice}
use Rattle.format.specs.Digits.{digits}
use Prim.Native.Nat.{◌+◌, ◌-◌, ◌*◌, ◌^◌, ◌<◌}
use mathlib.Core.Bool.{true}
use mathlib.Core.Path.{◌≡◌, refl, sym, ap, subst, ◌∙◌}
use native.Mathlib.Omega.{arith}
use Rattle.from_sheet.proofs.copy_fields.Goals as goal

pub source_units-words-requires : goal.source_units-words-requires
source_units-words-requires c = (run-size c.args.size c.requires.size_value.0).1

pub loop-i-init : goal.loop-i-init
loop-i-init c = storing_from (storing_begins c.requires.size_value.1) (omega arith) (omega arith) (omega arith)

pub overflow_add-at : goal.overflow_add-at
overflow_add-at c =
    let more : 0 < c.args.count - c.loop-i.i = omega (arith, c.loop-i-test.true) in
    omega (arith, one_inside c.loop-i.invariant more, ap (λ w. c.loop-i.i * w) c.source_units-words.ensures, length-unpacked 4 c.args.src.now)

pub loop-i-preserved : goal.loop-i-preserved
loop-i-preserved c =
    let more : 0 < c.args.count - c.loop-i.i = omega (arith, c.loop-i-test.true) in
    let value = c.get-value.ensures.value.0 ∙ ap (λ w. value_at way c.args.size (units c.args.src.now) (c.args.at + c.loop-i.i * w)) c.source_units-words.ensures in
    storing_from
    (storing_again c.loop-i.invariant more (c.put_field.ensures ∙ ap (λ v. splice (c.args.to + c.loop-i.i * c.args.size) (digits 256 c.args.size v) c.loop-i.dst) value))
    (omega arith) (omega arith) (omega arith)

pub returns : goal.returns
returns c = storing_ends c.loop-i.invariant (λ h. omega (arith, h, c.loop-i-test.false))
