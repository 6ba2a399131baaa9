-- `fields::floats::is_component` meets its contract by the law of its bits.
use Rattle.format.specs.FloatRangeLaws.{component-by_bits}
use Rattle.fields.specs.Tests.{tests}
use Rattle.fields.proofs.floats.is_component.Goals as goal

pub returns-then-bits-le1065353216 : goal.returns-then-bits-le1065353216
returns-then-bits-le1065353216 c = let h = c.if-bits-le1065353216.true in rw (component-by_bits c.args.bits c.requires) (simp tests)

pub returns : goal.returns
returns c = let h = c.if-bits-le1065353216.false in rw (component-by_bits c.args.bits c.requires) (simp tests)
