use Rattle.session_run.specs.Objects.{open_place}
use Rattle.session_run.proofs.place.open_step.Goals as goal

pub returns : goal.returns
returns c = λ ms. open_place c.args.p ms c.requires.0 c.requires.2 c.inside_step-next.ensures
