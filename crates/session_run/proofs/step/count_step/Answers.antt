use Rattle.session_run.specs.Cursors.{units_below}
use Rattle.session_run.specs.Insides.{asked-inside, count_tells_old, count_tells_new}
use Rattle.format.specs.Kind as K
use mathlib.Core.Path.{refl}
use native.Mathlib.Omega.{arith}
use Rattle.session_run.proofs.step.count_step.Goals as goal

pub returns-then-version-lt-V1_3 : goal.returns-then-version-lt-V1_3
returns-then-version-lt-V1_3 c =
    asked-inside (count_tells_old c.args.version c.args.s c.requires c.if-version-lt-V1_3.true) (omega arith) (omega arith) (units_below c.args.here) c.args.here.inside (c.count-counted.ensures.asks K.integer refl refl) c.segments_from.ensures

pub returns : goal.returns
returns c =
    asked-inside (count_tells_new c.args.version c.args.s c.requires c.if-version-lt-V1_3.false) (omega arith) (omega arith) (units_below c.args.here) c.args.here.inside (c.count-counted.ensures.asks K.integer refl refl) c.segments_from-2.ensures
