use Rattle.session_run.specs.Insides.{whole-inside}
use Rattle.session_run.proofs.step.whole_step.Goals as goal

pub returns : goal.returns
returns c = whole-inside c.requires.0 c.whole.ensures
