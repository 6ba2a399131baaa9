use Rattle.session_run.specs.Cursors.{units_below}
use Rattle.session_run.specs.Insides.{asked-inside, segment_tells}
use Rattle.pieces.specs.OutlineLaws.{segments_from}
use mathlib.Core.Bool.{cond}
use mathlib.Core.Path.{◌∙◌, ap}
use native.Mathlib.Omega.{arith}
use Rattle.session_run.proofs.step.segment_step.Goals as goal

pub returns : goal.returns
returns c =
    let s = c.args.s in asked-inside (segment_tells c.args.version s c.requires) (omega arith) (omega arith) (units_below c.args.here) c.args.here.inside c.segment_letter-told.ensures (c.segments_from.ensures ∙ ap (λ n. segments_from s 19 s.segments n) (c.either_of-doubles.ensures ∙ ap (λ t. cond t 2 6) c.is_straight.ensures))
