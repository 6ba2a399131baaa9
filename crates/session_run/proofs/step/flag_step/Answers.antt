use Rattle.session_run.specs.Cursors.{units_below}
use Rattle.session_run.specs.Insides.{asked-inside, with_run}
use mathlib.Core.Path.{ap}
use native.Mathlib.Omega.{arith}
use Rattle.session_run.proofs.step.flag_step.Goals as goal

pub returns : goal.returns
returns c =
    let s = c.args.s in asked-inside c.requires (omega arith) (omega arith) (units_below c.args.here) c.args.here.inside c.flag-told.ensures (ap (λ p. with_run s p 0 s.width) c.either_of.ensures)
