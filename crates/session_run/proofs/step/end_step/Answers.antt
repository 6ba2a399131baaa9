use Rattle.session_run.specs.Cursors.{units_below}
use Rattle.session_run.specs.Insides.{asked-inside, end_tells_old, end_tells_new}
use mathlib.Core.Path.{refl}
use native.Mathlib.Omega.{arith}
use Rattle.session_run.proofs.step.end_step.Goals as goal

pub returns-then-version-lt-V1_2 : goal.returns-then-version-lt-V1_2
returns-then-version-lt-V1_2 c =
    asked-inside (end_tells_old c.args.version c.args.s c.requires c.if-version-lt-V1_2.true) (omega arith) (omega arith) (units_below c.args.here) c.args.here.inside c.flow_flag-flow.ensures refl

pub returns : goal.returns
returns c =
    asked-inside (end_tells_new c.args.version c.args.s c.requires c.if-version-lt-V1_2.false) (omega arith) (omega arith) (units_below c.args.here) c.args.here.inside c.flow_flag-flow.ensures refl
