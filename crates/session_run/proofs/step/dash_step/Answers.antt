use Rattle.session_run.specs.Cursors.{units_below}
use Rattle.session_run.specs.Insides.{asked-inside, with_run, dashes_tell}
use Prim.Native.Nat.{◌/◌}
use mathlib.Core.Path.{ap}
use native.Mathlib.Omega.{arith}
use Rattle.session_run.proofs.step.dash_step.Goals as goal

pub returns : goal.returns
returns c =
    let s = c.args.s in asked-inside (dashes_tell c.args.version s c.requires) (omega arith) (omega arith) (units_below c.args.here) c.args.here.inside c.dash_count-counted.ensures.0 (ap (λ n. with_run s (s.parts / 25) n 4) c.dash_run.ensures)
