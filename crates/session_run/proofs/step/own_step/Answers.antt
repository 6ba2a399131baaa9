use Rattle.session_run.specs.Cursors.{units_below}
use Rattle.session_run.specs.Insides.{asked-inside, with_run}
use mathlib.Core.Bool.{cond}
use mathlib.Core.Path.{◌∙◌, ap}
use native.Mathlib.Omega.{arith}
use Rattle.session_run.proofs.step.own_step.Goals as goal

pub returns : goal.returns
returns c =
    let s = c.args.s in asked-inside c.requires (omega arith) (omega arith) (units_below c.args.here) c.args.here.inside c.segment_letter-told.ensures (ap (λ p. with_run s p 0 s.width) (c.either_of.ensures ∙ ap (λ t. cond t c.args.line c.args.curve) c.is_straight.ensures))
