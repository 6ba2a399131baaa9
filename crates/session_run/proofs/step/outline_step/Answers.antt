use Rattle.session_run.specs.Cursors.{units_below}
use Rattle.session_run.specs.Insides.{asked-inside, outline_tells}
use mathlib.Core.Path.{refl}
use native.Mathlib.Omega.{arith}
use Rattle.session_run.proofs.step.outline_step.Goals as goal

pub returns : goal.returns
returns c =
    asked-inside (outline_tells c.args.version c.args.s c.requires) (omega arith) (omega arith) (units_below c.args.here) c.args.here.inside c.closed_letter-told.ensures refl
