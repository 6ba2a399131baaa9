-- The words of an outline: of a segment its letter and then four words a point, and of an outline those of its segments.
use Rattle.std.specs.Prelude.{◌≡◌, refl, Bool, true, false, ℕ, zero, suc, ◌*◌, ◌^◌, ◌<◌, List, [], ◌∷◌, ◌++◌, length}
use Rattle.std.proofs.Common.{ap₂, ◌∙◌, arith}
use Rattle.std.proofs.Math.Option.{Option, none, some}
use Rattle.format.specs.Digits.{digits}
use Rattle.format.specs.FixedCodec.{spell_fixed}
use Rattle.format.specs.Format.{fields}
use Rattle.format.specs.Layout.{Layout, threaded}
use Rattle.drawing.specs.Codecs.{word_fields}
use Rattle.drawing.specs.Path.{Point, Segment, curve, line, move, end_of, segment_letter, point, joined_point, segment}
use Rattle.drawing.specs.Table.{words_of}
use Rattle.drawing.specs.Extent.{segment_points}
use Rattle.laws.specs.ObjectBytes.{spelled-append}
use Rattle.extent.specs.Points.{points_of}

-- ---- words

abbrev pub points_words : List Point → List ℕ
points_words [] = []
points_words (p ∷ ps) = digits (2 ^ 32) 2 p.x ++ (digits (2 ^ 32) 2 p.y ++ points_words ps)

abbrev pub segments_words : (own : Bool) → List Segment → List ℕ
segments_words own [] = []
segments_words own (s ∷ ss) = (segment_letter s ∷ points_words (segment_points own s)) ++ segments_words own ss

-- Whatever segment was before it.
segment-words : (own : Bool) (before : Option Point) (s : Segment) → words_of (segment own before) s ≡ segment_letter s ∷ points_words (segment_points own s)
segment-words true none (curve s p q e) = refl
segment-words true none (line s e) = refl
segment-words true none (move s e) = refl
segment-words true (some b) (curve s p q e) = refl
segment-words true (some b) (line s e) = refl
segment-words true (some b) (move s e) = refl
segment-words false before (curve s p q e) = refl
segment-words false before (line s e) = refl
segment-words false before (move s e) = refl

module _ (own : Bool) where
  abbrev pub joined_segments : ℕ → Option Point → Layout (List Segment)
  joined_segments n before = threaded n (segment own) (λ before s. some (end_of s)) before

  -- How many segments the layout says there are is not in their words.
  pub segments-words : (n : ℕ) (before : Option Point) (ss : List Segment) → words_of (joined_segments n before) ss ≡ segments_words own ss
  segments-words n before [] = refl
  segments-words n before (s ∷ ss) =
      spelled-append (spell_fixed word_fields) (fields (segment own before).format s) (fields (joined_segments n (some (end_of s))).format ss)
      ∙ ap₂ (λ l k. l ++ k) (segment-words own before s) (segments-words n (some (end_of s)) ss)

-- ---- coordinates fit in 64 bits

abbrev pub PointFits : Point → Type 0
PointFits p = (p.x < 256 ^ 8) × (p.y < 256 ^ 8)

abbrev pub Fit : List Point → Type 0
Fit [] = Unit {0}
Fit (p ∷ ps) = PointFits p × Fit ps

abbrev pub SegmentsFit : (own : Bool) → List Segment → Type 0
SegmentsFit own [] = Unit {0}
SegmentsFit own (s ∷ ss) = Fit (segment_points own s) × SegmentsFit own ss

pub point_fit : (p : Point) → point.Good p → PointFits p
point_fit p good = (good.1.0.fits, good.1.1.fits)

joined_fit : (before : Option Point) (p : Point) → (joined_point before).Good p → PointFits p
joined_fit none p good = point_fit p good
joined_fit (some b) p good = (good.1.0.fits, good.1.1.fits)

segment_fit : (own : Bool) (before : Option Point) (s : Segment) → (segment own before).Good s → Fit (segment_points own s)
segment_fit true before (curve s p q e) good =
    let g = good.1.1 in
    (joined_fit before s g.0, (point_fit p g.1.0, (point_fit q g.1.1.0, (point_fit e g.1.1.1, tt))))
segment_fit true before (line s e) good = (joined_fit before s good.1.1.0, (point_fit e good.1.1.1, tt))
segment_fit true before (move s e) good = (joined_fit before s good.1.1.0, (point_fit e good.1.1.1, tt))
segment_fit false before (curve s p q e) good = let g = good.1.1.1 in (point_fit p g.0, (point_fit q g.1.0, (point_fit e g.1.1, tt)))
segment_fit false before (line s e) good = (point_fit e good.1.1.1, tt)
segment_fit false before (move s e) good = (point_fit e good.1.1.1, tt)

pub segments_fit : (own : Bool) (n : ℕ) (before : Option Point) (ss : List Segment) → (joined_segments own n before).Good ss → SegmentsFit own ss
segments_fit own zero before [] good = tt
segments_fit own zero before (s ∷ ss) good = absurd good
segments_fit own (suc n) before [] good = absurd good
segments_fit own (suc n) before (s ∷ ss) good = (segment_fit own before s good.0, segments_fit own n (some (end_of s)) ss good.1)

-- ---- how many there are

pub points-length : (ps : List Point) → length (points_words ps) ≡ 4 * length ps
points-length [] = refl
points-length (p ∷ ps) = omega (arith, points-length ps)

abbrev pub own_points : Bool → ℕ
own_points true = 1
own_points false = 0

pub points-counted : (own : Bool) (s : Segment) → points_of (segment_letter s) (own_points own) ≡ length (segment_points own s)
points-counted true (curve s p q e) = refl
points-counted true (line s e) = refl
points-counted true (move s e) = refl
points-counted false (curve s p q e) = refl
points-counted false (line s e) = refl
points-counted false (move s e) = refl
