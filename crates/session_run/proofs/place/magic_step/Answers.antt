use Rattle.session_run.specs.Objects.{standing_of, head-told, sound-at}
use Rattle.pieces.specs.EntryLaws.{rest-magic}
use Rattle.drawing.specs.Fields as F
use native.Mathlib.Omega.{arith}
use mathlib.Core.Path.{refl}
use Rattle.session_run.proofs.place.magic_step.Goals as goal

pub returns : goal.returns
returns c =
    let p = c.args.p in head-told p c.requires.0 F.magic (record { stage = 1; version = p.version; depth = p.depth; rows = p.rows; inside = p.inside }) (λ ms some. rest-magic (standing_of p ms)) (sound-at 1 p.version (omega arith) c.requires.1) (omega arith) c.judged.ensures.around refl
