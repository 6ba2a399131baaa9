use Rattle.session_run.specs.Cursors.{units_below}
use Rattle.session_run.specs.Insides.{string-inside}
use Rattle.format.specs.Kind as K
use mathlib.Core.Path.{refl}
use Rattle.session_run.proofs.step.string_step.Goals as goal

pub returns : goal.returns
returns c =
    string-inside c.args.version c.args.s c.requires (units_below c.args.here) c.args.here.inside (c.count-length.ensures.asks K.string_length refl refl)
