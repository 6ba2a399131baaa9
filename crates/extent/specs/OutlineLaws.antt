-- The outline that stands at a place: its points are those that stand there in words.
use Rattle.std.specs.Prelude.{◌≡◌, Bool, true, false, cond, ℕ, ◌+◌, ◌*◌, ◌/◌, ◌%◌, ◌^◌, ◌<◌, ◌≤◌, leb, ltb}
use Rattle.std.proofs.Math.Path.{refl, sym, ap, ap₂}
use Rattle.std.proofs.Common.{subst, subst₂, ◌∙◌, add-zero, arith, get_or-drop, lt-ltb, le-ltb, le-leb}
use Rattle.std.proofs.Math.Option.{none}
use mathlib.Core.List.{List, [], ◌∷◌, ◌++◌}
use Rattle.std.proofs.Math.ListN.{length, get_or, length-append, get_or-append}
use Rattle.std.proofs.lemmas.Bool.{lt-leb}
use Rattle.format.specs.Digits.{digits}
use Rattle.format.specs.DigitsLaws.{number_digits}
use Rattle.format.specs.Kind.{Allowed}
use Rattle.format.specs.Layout.{Layout, when, ◌&◌}
use Rattle.drawing.specs.Fields.{segment_count}
use Rattle.drawing.specs.Path.{Point, Segment, Outline, origin, segment_letter, point, segments, outline}
use Rattle.drawing.specs.Table.{words_of}
use Rattle.drawing.specs.Questions.{part}
use Rattle.drawing.specs.Extent.{segment_points, all_points, extent_of}
use Rattle.drawing.specs.Computed.{extent_value}
use Rattle.laws.specs.WalkComplete.{one_word}
use Rattle.laws.specs.Standing.{WordsStand, Here}
use Rattle.laws.specs.StandingLaws.{stands_long, stands_first, stands_next, here_as, here-behind, here-first, here_second}
use Rattle.extent.specs.Points.{bits_at, point_at, points_at, points_of, next_at, segments_at, segments_end, SegmentsInside, boxed}
use Rattle.extent.specs.BoxLaws.{boxed_twice}
use Rattle.extent.specs.PointLaws.{segment-inside, own_first}
use Rattle.extent.specs.OutlineWordLaws.{points_words, segments_words, joined_segments, segments-words, PointFits, Fit, point_fit, SegmentsFit, segments_fit, points-length, own_points, points-counted}

-- ---- points

module _ {ws : List ℕ} where
  -- A word of those that stand here.
  word_here : {at : ℕ} (these : List ℕ) {those : List ℕ} → WordsStand ws at these those → (i : ℕ) → i < length these → get_or ws (at + i) 0 ≡ get_or these i 0
  word_here {at} these {those} stands i inside = sym (get_or-drop at ws i 0) ∙ ap (λ l. get_or l i 0) stands.words_are ∙ get_or-append these those 0 i inside

  -- Two words give back the bits that they were made of.
  bits_here : {at : ℕ} (bits : ℕ) {those : List ℕ} → WordsStand ws at (digits (2 ^ 32) 2 bits) those → bits < 256 ^ 8 → bits_at ws at ≡ bits
  bits_here {at} bits stands fits =
      let high = ap (λ n. get_or ws n 0) (sym (add-zero at)) ∙ word_here (digits (2 ^ 32) 2 bits) stands 0 (omega arith) in
      let low = word_here (digits (2 ^ 32) 2 bits) stands 1 (omega arith) in
      ap₂ (λ h l. h * (2 ^ 32) ^ 1 + (l * (2 ^ 32) ^ 0 + 0)) high low ∙ number_digits (2 ^ 32) 2 bits (omega arith) fits

  point-here : (p : Point) {at : ℕ} (more : List ℕ) {those : List ℕ} → WordsStand ws at (digits (2 ^ 32) 2 p.x ++ (digits (2 ^ 32) 2 p.y ++ more)) those
      → PointFits p → point_at ws at ≡ p
  point-here p more stands fits =
      let x = digits (2 ^ 32) 2 p.x in
      let y = digits (2 ^ 32) 2 p.y in
      ap₂ {C = Point} (λ x y. record { x = x; y = y })
      (bits_here p.x (stands_first x (y ++ more) stands) fits.0)
      (bits_here p.y (stands_first y more (stands_next x (y ++ more) stands)) fits.1)

  points-here : (ps : List Point) {at : ℕ} {those : List ℕ} → WordsStand ws at (points_words ps) those → Fit ps → points_at ws at (length ps) ≡ ps
  unfolding points_at
  points-here [] stands fit = refl
  points-here (p ∷ ps) stands fit =
      let four = digits (2 ^ 32) 2 p.x ++ digits (2 ^ 32) 2 p.y in
      ap₂ {C = List Point} (λ q qs. q ∷ qs) (point-here p (points_words ps) stands fit.0) (points-here ps (stands_next four (points_words ps) stands) fit.1)

-- ---- segments

pub record SegmentsAre (ws : List ℕ) (own : Bool) (at : ℕ) (ss : List Segment) : Type 0 where
  pub points-are : segments_at ws at (own_points own) (length ss) ≡ all_points own ss
  pub end_is : segments_end ws at (own_points own) (length ss) ≡ at + length (segments_words own ss)

module _ {ws : List ℕ} (own : Bool) where
  segments-here : (ss : List Segment) {at : ℕ} {those : List ℕ} → WordsStand ws at (segments_words own ss) those → SegmentsFit own ss → SegmentsAre ws own at ss
  unfolding segments_at segments_end
  segments-here [] {at} stands fit = record { points-are = refl; end_is = sym (add-zero at) }
  segments-here (s ∷ ss) {at} {those} stands fit =
      let ps = segment_points own s in
      let front = segment_letter s ∷ points_words ps in
      let first = stands_first front (segments_words own ss) stands in
      let letter : get_or ws at 0 ≡ segment_letter s = ap (λ n. get_or ws n 0) (sym (add-zero at)) ∙ word_here front first 0 (omega arith) in
      let many : points_of (get_or ws at 0) (own_points own) ≡ length ps = ap (λ l. points_of l (own_points own)) letter ∙ points-counted own s in
      let these = ap (points_at ws (at + 1)) many ∙ points-here ps (stands_next (segment_letter s ∷ []) (points_words ps) first) fit.0 in
      let next : at + length front ≡ next_at ws at (own_points own) = omega (arith, points-length ps) in
      let others = segments-here ss (subst (λ n. WordsStand ws n (segments_words own ss) those) next (stands_next front (segments_words own ss) stands)) fit.1 in
      record {
        points-are = ap₂ (λ l k. l ++ k) these others.points-are;
        end_is = others.end_is ∙ omega (arith, next, length-append front (segments_words own ss));
      }

  pub segments_are : (n : ℕ) (ss : List Segment) {at : ℕ} → Here (joined_segments own n none) ws at ss → SegmentsAre ws own at ss
  segments_are n ss {at} here =
      segments-here ss (subst (λ l. WordsStand ws at l here.rest) (segments-words own n none ss) here.stands) (segments_fit own n none ss here.good)

own_small : (own : Bool) → own_points own ≤ 1
own_small true = omega arith
own_small false = omega arith

-- ---- outlines

some_segment : (ss : List Segment) → Allowed segment_count (length ss) → 0 < length ss
some_segment [] allowed = let z : ◌≡◌ {A = ℕ} 8 0 = allowed.faultless in absurd (omega arith)
some_segment (s ∷ ss) allowed = omega arith

-- What the code finds, from the first point and from the segments on: they are in the words, and the answer is the outline's.
pub record AroundIs (ws : List ℕ) (v at first from own : ℕ) (o : Outline) : Type 0 where
  pub first-inside : first + 4 ≤ length ws
  pub inside : SegmentsInside ws from own (get_or ws (at + 1) 0)
  pub answer-is : boxed (point_at ws first ∷ segments_at ws from own (get_or ws (at + 1) 0)) ≡ extent_value (extent_of v (part o))

module _ {ws : List ℕ} (v at : ℕ) (o : Outline) (here : Here (outline v) ws at o) where
  abbrev start : Layout Point
  start = when (leb 3 v) point origin

  abbrev count : ℕ
  count = length o.segments

  abbrev front : List ℕ
  front = o.open_or_closed / 1 % 2 ^ 32 ∷ count / 1 % 2 ^ 32 ∷ []

  -- Its segments stand there, with starts of their own or without.
  abbrev SegmentsFrom : Bool → ℕ → Type 0
  SegmentsFrom own from = Here (joined_segments own count none) ws from o.segments

  -- Behind O or C and the count.
  behind-here : Here (start & segments v count) ws (at + 2) (o.start, o.segments)
  behind-here = here-behind here front (start & segments v count) refl here.good.1.1.1

  pub count-inside : at + 1 < length ws
  count-inside = omega (arith, stands_long (stands_first front _ here.stands))

  count_is : get_or ws (at + 1) 0 ≡ count
  count_is = word_here front (stands_first front _ here.stands) 1 (omega arith) ∙ one_word count here.good.1.1.0.fits

  segments-from : {own t : Bool} → ltb v 3 ≡ own → leb 3 v ≡ t → SegmentsFrom own (at + 2 + length (words_of (when t point origin) o.start))
  segments-from own_is t-is =
      subst₂ (λ own t. SegmentsFrom own (at + 2 + length (words_of (when t point origin) o.start))) own_is t-is (here_second start (segments v count) behind-here)

  inside-from : (own : Bool) {from : ℕ} → SegmentsFrom own from → SegmentsInside ws from (own_points own) (get_or ws (at + 1) 0)
  inside-from own {from} these =
      let words = ap length (segments-words own count none o.segments) in
      let end : segments_end ws from (own_points own) count ≤ length ws = omega (arith, stands_long these.stands, words, (segments_are own count o.segments these).end_is) in
      record { own_is = own_small own; inside = subst (λ n. segments_end ws from (own_points own) n ≤ length ws) (sym count_is) end }

  points-from : (own : Bool) {from : ℕ} → SegmentsFrom own from → segments_at ws from (own_points own) (get_or ws (at + 1) 0) ≡ all_points own o.segments
  points-from own {from} these = ap (segments_at ws from (own_points own)) count_is ∙ (segments_are own count o.segments these).points-are

  abbrev points : Bool → List Point
  points t = cond t (o.start ∷ all_points false o.segments) (all_points true o.segments)

  answer-of : {t : Bool} → leb 3 v ≡ t → boxed (points t) ≡ extent_value (extent_of v (part o))
  unfolding boxed
  answer-of is = ap (λ t. boxed (points t)) (sym is)

  -- From 1.3 on the first point is the start.
  pub late_outline : 3 ≤ v → AroundIs ws v at (at + 2) (at + 6) 0 o
  late_outline late =
      let on = le-leb 3 v late in
      let there = subst (λ t. Here (when t point origin) ws (at + 2) o.start) on (here-first start (segments v count) behind-here) in
      let begins : Here point ws (at + 2) o.start = here_as there point refl there.good in
      let six : at + 2 + 4 ≡ at + 6 = omega arith in
      let these = subst (SegmentsFrom false) six (segments-from (le-ltb v 3 late) on) in
      record {
        first-inside = stands_long begins.stands;
        inside = inside-from false these;
        answer-is = ap₂ (λ p ps. boxed (p ∷ ps)) (point-here o.start [] begins.stands (point_fit o.start begins.good)) (points-from false these) ∙ answer-of on;
      }

  -- Below, it is the first segment's own start, which is then met again.
  pub early_outline : v < 3 → AroundIs ws v at (at + 3) (at + 2) 1 o
  early_outline early =
      let off = lt-leb 3 v early in
      let these = subst (SegmentsFrom true) (add-zero (at + 2)) (segments-from (lt-ltb v 3 early) off) in
      let inside = inside-from true these in
      let more : 0 < get_or ws (at + 1) 0 = subst (λ n. 0 < n) (sym count_is) (some_segment o.segments here.good.1.1.0) in
      let begins = own_first ws (at + 2) (get_or ws (at + 1) 0) more in
      let three : at + 2 + 1 ≡ at + 3 = omega arith in
      record {
        first-inside = omega (arith, segment-inside ws 1 (at + 2) (get_or ws (at + 1) 0) refl more inside);
        inside = inside;
        answer-is =
            ap₂ (λ n ps. boxed (point_at ws n ∷ ps)) (sym three) begins.1
            ∙ boxed_twice (point_at ws (at + 2 + 1)) begins.0
            ∙ ap boxed (sym begins.1 ∙ points-from true these)
            ∙ answer-of off;
      }
