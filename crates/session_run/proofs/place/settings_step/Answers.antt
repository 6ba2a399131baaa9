use Rattle.session_run.specs.Objects.{standing_of, head-whole, sound-at, settings_ask}
use Rattle.pieces.specs.PartBounds.{settings_39}
use Rattle.pieces.specs.EntryLaws.{rest-settings}
use Rattle.drawing.specs.Settings.{settings}
use native.Mathlib.Omega.{arith}
use mathlib.Core.Path.{refl}
use Rattle.session_run.proofs.place.settings_step.Goals as goal

pub returns : goal.returns
returns c =
    let p = c.args.p in head-whole p c.requires.0 (settings p.version) (record { stage = 4; version = p.version; depth = p.depth; rows = p.rows; inside = p.inside }) (λ ms some. rest-settings (standing_of p ms)) (sound-at 4 p.version (omega arith) c.requires.1) (omega arith) (settings_39 p.version) (omega arith) (settings_ask p.version) c.args.here.inside c.settings.ensures refl
