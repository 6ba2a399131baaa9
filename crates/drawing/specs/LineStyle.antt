-- Line styles (01, 'Line style').
use Rattle.std.specs.Prelude.{refl, ℕ, List, [], length, leb, ltb, eqb}
use Rattle.format.specs.Layout.{Layout, field, when, counted, renamed, ◌&◌, ◌▸◌}
use Rattle.drawing.specs.Limits.{v1_1}
use Rattle.drawing.specs.Fields.{float, dash_count, byte_in, winding_rule}
use Rattle.drawing.specs.Marker.{Marker}
use Rattle.drawing.specs.MarkerChain.{markers}

pub record LineStyle : Type 0 where
  pub width : ℕ
  pub dashes : List ℕ
  -- 0 without dashes
  pub dash_offset : ℕ
  pub cap : ℕ
  pub join : ℕ
  -- 0 unless the join is 0
  pub mitre_limit : ℕ
  pub winding : ℕ
  pub start : List Marker
  -- none in 1.0
  pub mid : List Marker
  pub end : List Marker

abbrev pub line_style : ℕ → Layout LineStyle
line_style v =
    renamed
    (field float
    & (counted dash_count (field float) ▸ λ dashes. when (ltb 0 (length dashes)) (field float) 0)
    & field (byte_in 0 2)
    & (field (byte_in 0 2) ▸ λ join. when (eqb join 0) (field float) 0)
    & field winding_rule
    & markers v
    & when (leb v1_1 v) (markers v) []
    & markers v)
    (λ (width, ((dashes, dash_offset), (cap, ((join, mitre_limit), (winding, (start, (mid, end))))))).
    record { width = width; dashes = dashes; dash_offset = dash_offset; cap = cap; join = join; mitre_limit = mitre_limit; winding = winding; start = start; mid = mid; end = end })
    (λ s. (s.width, ((s.dashes, s.dash_offset), (s.cap, ((s.join, s.mitre_limit), (s.winding, (s.start, (s.mid, s.end))))))))
    (λ t good. refl)
