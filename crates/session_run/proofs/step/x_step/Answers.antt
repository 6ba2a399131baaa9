use Rattle.session_run.specs.Insides.{told-inside, x_tells}
use mathlib.Core.Path.{refl}
use Rattle.session_run.proofs.step.x_step.Goals as goal

pub returns : goal.returns
returns c = told-inside (x_tells c.args.version c.args.s c.requires) c.judged-told.ensures.inside refl
