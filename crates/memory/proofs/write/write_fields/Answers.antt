-- `memory::write::write_fields` meets its contract.
use Rattle.std.proofs.Common.{◌+◌, ◌-◌, ◌*◌, ◌^◌, ◌<◌, sym, ap, ◌∙◌, arith}
use Rattle.memory.specs.StoreLaws.{storing_again, storing_from, one_inside}
use Rattle.format.specs.LeafLaws.{field-one}
use Rattle.format.specs.Digits.{digits}
use Rattle.format.specs.Pass.{splice}
use Rattle.memory.proofs.write.write_fields.Goals as goal

pub loop-i-preserved : goal.loop-i-preserved
loop-i-preserved c =
    let more : 0 < c.args.count - c.loop-i.i = omega (arith, c.loop-i-test.true) in
    let field = field-one (2 ^ 32) c.args.words.now (c.args.from + c.loop-i.i) (omega (arith, one_inside c.loop-i.invariant more)) in
    storing_from
    (storing_again c.loop-i.invariant more (c.put_field.ensures ∙ ap (λ v. splice (c.args.to + c.loop-i.i * c.args.size) (digits 256 c.args.size v) c.loop-i.out) (sym field)))
    (omega arith) (omega arith) (omega arith)
