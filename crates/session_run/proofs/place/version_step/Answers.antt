use Rattle.session_run.specs.Objects.{standing_of, head_tells, sound-at}
use Rattle.pieces.specs.EntryLaws.{rest-version, known}
use Rattle.pieces.specs.Parts.{rest_at}
use Rattle.drawing.specs.Fields as F
use Prim.Native.Nat.{◌-◌}
use native.Mathlib.Omega.{arith}
use mathlib.Core.Path.{refl}
use Rattle.session_run.proofs.place.version_step.Goals as goal

pub returns-then-told-ge-REFUSED : goal.returns-then-told-ge-REFUSED
returns-then-told-ge-REFUSED c =
    let p = c.args.p in head_tells p c.requires.0 F.version_chars (λ ms v. rest_at 3 (known (standing_of p ms) (v - F.version_zero))) p (λ ms some. rest-version (standing_of p ms)) (omega arith) (λ on. let off = c.if-told-ge-REFUSED.true in absurd (omega arith)) c.judged-told.ensures.around refl

pub returns : goal.returns
returns c =
    let p = c.args.p in let v = c.judged-told.result.value - F.version_zero in head_tells p c.requires.0 F.version_chars (λ ms v. rest_at 3 (known (standing_of p ms) (v - F.version_zero))) (record { stage = 3; version = v; depth = p.depth; rows = p.rows; inside = p.inside }) (λ ms some. rest-version (standing_of p ms)) (omega arith) (λ on. (sound-at 3 v (omega arith) c.requires.1, λ ms. refl)) c.judged-told.ensures.around refl
