-- One marker (01, 'Line style'). Chains of composite markers are in MarkerChain.
use Rattle.std.specs.Prelude.{refl, cond, ◌&&◌, ℕ, List, [], ◌∷◌, leb, eqb}
use Rattle.std.proofs.Math.Option.{Option, none, some}
use Rattle.format.specs.Layout.{Layout, field, either, when, renamed, ◌&◌, ◌▸◌}
use Rattle.drawing.specs.Limits.{v1_1, v1_4}
use Rattle.drawing.specs.Fields.{flag, byte_in, float}
use Rattle.drawing.specs.Choices.{if_flag, unless_flag}
use Rattle.drawing.specs.Paint.{Plain, transparent, plain_paint}

-- A marker of any version; a field that its version does not have is 0, none or transparent.
pub record Marker : Type 0 where
  pub id : ℕ
  pub size : ℕ
  -- in 1.0 alone
  pub double : ℕ
  pub repeat : ℕ
  pub reversed : ℕ
  -- none for auto-orient
  pub angle : Option ℕ
  pub paint : Plain
  pub overlay : ℕ
  pub offset : Option ℕ
  pub repeat_offset : Option ℕ

-- The highest marker id.
abbrev pub last_marker : ℕ → ℕ
last_marker v = cond (leb v1_4 v) 79 (cond (leb v1_1 v) 21 7)

-- The id that a chain begins with; 0 is that of none.
abbrev pub first_id : List Marker → ℕ
first_id [] = 0
first_id (m ∷ ms) = m.id

abbrev pub head_and_tail : List Marker → Option (Marker × List Marker)
head_and_tail [] = none
head_and_tail (m ∷ ms) = some (m, ms)

-- What follows an id that is not 0, in 1.0.
abbrev pub arrow : ℕ → Layout Marker
arrow id =
    renamed
    (field float & field flag & field flag)
    (λ (size, (double, reversed)).
    record { id = id; size = size; double = double; repeat = 0; reversed = reversed; angle = none; paint = transparent; overlay = 0; offset = none; repeat_offset = none })
    (λ m. (m.size, (m.double, m.reversed)))
    (λ t good. refl)

-- What follows an id that is not 0, from 1.1, up to the composite marker.
abbrev pub marker : ℕ → ℕ → Layout Marker
marker v id =
    renamed
    (field float & field (byte_in 1 3) & field flag & unless_flag (field float) & plain_paint v
    & (field flag ▸ λ overlay. when (leb v1_4 v && eqb overlay 0) (if_flag (field float) & if_flag (field float)) (none, none)))
    (λ (size, (repeat, (reversed, (angle, (paint, (overlay, (offset, repeat_offset))))))).
    record { id = id; size = size; double = 0; repeat = repeat; reversed = reversed; angle = angle; paint = paint; overlay = overlay; offset = offset; repeat_offset = repeat_offset })
    (λ m. (m.size, (m.repeat, (m.reversed, (m.angle, (m.paint, (m.overlay, (m.offset, m.repeat_offset))))))))
    (λ t good. refl)

abbrev pub marker_body : ℕ → ℕ → Layout Marker
marker_body v id = either (leb v1_1 v) (marker v id) (arrow id)
