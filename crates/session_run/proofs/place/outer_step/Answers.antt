use Rattle.session_run.specs.Objects.{standing_of, head-told}
use Rattle.pieces.specs.EntryLaws.{rest-outer, outer_id}
use native.Mathlib.Omega.{arith}
use mathlib.Core.Path.{refl}
use Rattle.session_run.proofs.place.outer_step.Goals as goal

pub returns : goal.returns
returns c =
    let p = c.args.p in head-told p c.requires.0 outer_id (record { stage = 5; version = p.version; depth = 0; rows = 1; inside = p.inside }) (λ ms some. rest-outer (standing_of p ms)) (record { staged = omega arith; shallow = omega arith; may-open = λ e. omega arith }) (omega arith) c.judged.ensures.around refl
