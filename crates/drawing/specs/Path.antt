-- Paths (01, 'Object', P), and the outlines of segments that paths and texts along paths (R-1, X) have.
use Rattle.std.specs.Prelude.{refl, Bool, true, ℕ, List, [], ◌∷◌, length, leb, ltb}
use Rattle.std.proofs.Math.Option.{Option, none, some}
use Prim.Native.Char.{code}
use Rattle.format.specs.Layout.{Layout, field, when, threaded, implied, renamed, ◌&◌}
use Rattle.format.specs.FormatLaws.{each-length}
use Rattle.format.specs.Choice.{alternative}
use Rattle.drawing.specs.Limits.{v1_3}
use Rattle.drawing.specs.Fields.{double, joined, segment_count, char_where, one_of_chars}
use Rattle.drawing.specs.Choices.{by_char}
use Rattle.drawing.specs.Paint.{Paint, paint}
use Rattle.drawing.specs.LineStyle.{LineStyle, line_style}

-- The coordinates are the bits of doubles.
pub record Point : Type 0 where
  pub x : ℕ
  pub y : ℕ

-- A segment with its own start point, a field below 1.3; from 1.3 on the origin stands for it.
pub data Segment : Type 0 where
  curve : (start first second end : Point) → Segment
  line : (start end : Point) → Segment
  move : (start end : Point) → Segment

-- What a path draws, and what a text runs along.
pub record Outline : Type 0 where
  -- the char O or C
  pub open_or_closed : ℕ
  -- a field from 1.3 on; below, the origin stands for it
  pub start : Point
  pub segments : List Segment

pub record Path : Type 0 where
  pub line_paint : Paint
  pub fill_paint : Paint
  pub style : LineStyle
  pub outline : Outline

abbrev pub origin : Point
origin = record { x = 0; y = 0 }

abbrev pub end_of : Segment → Point
end_of (curve s p q e) = e
end_of (line s e) = e
end_of (move s e) = e

abbrev pub segment_letter : Segment → ℕ
segment_letter (curve s p q e) = code "B"
segment_letter (line s e) = code "L"
segment_letter (move s e) = code "M"

abbrev pub curve_points : Segment → Option (Point × (Point × (Point × Point)))
curve_points (curve s p q e) = some (s, (p, (q, e)))
curve_points (line s e) = none
curve_points (move s e) = none

abbrev pub line_points : Segment → Option (Point × Point)
line_points (curve s p q e) = none
line_points (line s e) = some (s, e)
line_points (move s e) = some (s, e)

-- ---- the layout

abbrev pub two_doubles : Layout ℕ → Layout ℕ → Layout Point
two_doubles x y = renamed (x & y) (λ (x, y). record { x = x; y = y }) (λ p. (p.x, p.y)) (λ t good. refl)

abbrev pub point : Layout Point
point = two_doubles (field double) (field double)

-- A start point: free, or with the very bits of the end point of the segment before.
abbrev pub joined_point : Option Point → Layout Point
joined_point none = point
joined_point (some p) = two_doubles (field (joined p.x)) (field (joined p.y))

-- A segment, with a start point of its own or without, behind one that ends at this point, or the first one.
abbrev pub segment : (own : Bool) → Option Point → Layout Segment
segment own before =
    let start = when own (joined_point before) origin in
    by_char segment_letter
    (alternative (code "B") true (start & point & point & point) (λ (s, (p, (q, e))). curve s p q e) curve_points (λ t. refl) (λ t. refl))
    (alternative (code "L") true (start & point) (λ (s, e). line s e) line_points (λ t. refl) (λ t. refl)
    ∷ alternative (code "M") true (start & point) (λ (s, e). move s e) line_points (λ t. refl) (λ t. refl)
    ∷ [])

abbrev pub segments : ℕ → ℕ → Layout (List Segment)
segments v n = threaded n (segment (ltb v v1_3)) (λ before s. some (end_of s)) none

-- A count, the start point from 1.3 on, and as many segments.
abbrev pub counted_segments : ℕ → Layout (Point × List Segment)
counted_segments v =
    implied
    (field segment_count)
    (λ n. when (leb v1_3 v) point origin & segments v n)
    (λ t. length t.1)
    (λ n t allowed good. each-length (λ before. (segment (ltb v v1_3) before).Good) (λ before s. some (end_of s)) n none t.1 good.1)

abbrev pub outline : ℕ → Layout Outline
outline v =
    renamed
    (field (char_where (one_of_chars (code "O" ∷ code "C" ∷ []))) & counted_segments v)
    (λ (open_or_closed, (start, segments)). record { open_or_closed = open_or_closed; start = start; segments = segments })
    (λ o. (o.open_or_closed, (o.start, o.segments)))
    (λ t good. refl)

abbrev pub path : ℕ → Layout Path
path v =
    renamed
    (paint v & paint v & line_style v & outline v)
    (λ (line_paint, (fill_paint, (style, outline))). record { line_paint = line_paint; fill_paint = fill_paint; style = style; outline = outline })
    (λ p. (p.line_paint, (p.fill_paint, (p.style, p.outline))))
    (λ t good. refl)
