use Rattle.session_run.specs.Objects.{between_done, ended-place}
use mathlib.Core.Path.{refl}
use Rattle.session_run.proofs.place.around_step.Goals as goal

pub returns : goal.returns
returns c =
    let r = c.requires.between_objects in ended-place c.args.p c.args.members.now r.0 (between_done c.args.p r.1) c.requires.depth_nonzero c.if-members-p-ne0.false r.2 refl c.end_step-ended.ensures
