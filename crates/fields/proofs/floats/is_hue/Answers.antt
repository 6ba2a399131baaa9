-- `fields::floats::is_hue` meets its contract by the law of its bits.
use Rattle.format.specs.FloatRangeLaws.{hue-by_bits}
use Rattle.fields.specs.Tests.{tests}
use Rattle.fields.proofs.floats.is_hue.Goals as goal

pub returns-then-bits-lt1135869952 : goal.returns-then-bits-lt1135869952
returns-then-bits-lt1135869952 c = let h = c.if-bits-lt1135869952.true in rw (hue-by_bits c.args.bits c.requires) (simp tests)

pub returns : goal.returns
returns c = let h = c.if-bits-lt1135869952.false in rw (hue-by_bits c.args.bits c.requires) (simp tests)
