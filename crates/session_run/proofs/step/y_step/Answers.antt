use Rattle.session_run.specs.Insides.{told-inside, y_tells}
use Rattle.session_run.proofs.step.y_step.Goals as goal

pub returns : goal.returns
returns c = told-inside (y_tells c.args.version c.args.s c.requires) c.judged-told.ensures.inside c.segments_from.ensures
