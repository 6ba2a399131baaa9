-- `memory::store::store_fields` meets its contract.
use Rattle.std.proofs.Common.{rules, ◌+◌, ◌-◌, ◌^◌, ◌<◌, ap, ◌∙◌, arith}
use Rattle.memory.specs.StoreLaws.{storing_again, storing_from, one-fits}
use Rattle.memory.specs.ValueLaws.{set-splice}
use Rattle.format.specs.Digits.{digits}
use Rattle.format.specs.Pass.{splice}
use Rattle.memory.proofs.store.store_fields.Goals as goal

pub loop-i-preserved : goal.loop-i-preserved
loop-i-preserved c =
    let more : 0 < c.args.count - c.loop-i.i = omega (arith, c.loop-i-test.true) in
    let place = c.args.to + c.loop-i.i in
    storing_from
    (storing_again c.loop-i.invariant more (set-splice c.loop-i.bodies place c.field_at.result (omega (arith, one-fits c.loop-i.invariant more)) (search rules) ∙ ap (λ v. splice place (digits (2 ^ 32) 1 v) c.loop-i.bodies) c.field_at.ensures))
    (omega arith) (omega arith) (omega arith)
