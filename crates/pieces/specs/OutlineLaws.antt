-- What is left of an outline, segment by segment; and of strings and dashes behind their counts.
use Rattle.std.specs.Prelude.{◌≡◌, Bool, cond, ◌||◌, ℕ, zero, suc, ◌+◌, ◌-◌, ◌<◌, ◌≤◌, List, [], ◌∷◌, eqb, leb, ltb}
use Rattle.std.proofs.Math.Path.{refl, ap, fun_ext}
use Rattle.std.proofs.Common.{sym, ap₂, ◌∙◌, arith, ne_eqb, lt-ltb, le-ltb, le-leb}
use Rattle.std.proofs.Math.Bool.{true, false}
use Rattle.std.proofs.Math.Option.{Option, none, some}
use Rattle.std.proofs.lemmas.Bool.{lt-leb}
use Rattle.format.specs.Kind.{Kind}
use Rattle.format.specs.Script.{Script, ask}
use Rattle.format.specs.Format.{script}
use Rattle.format.specs.Layout.{Layout, field, when, repeat, implied, renamed, ◌&◌}
use Rattle.format.specs.Pass.{◌⟫◌, done}
use Rattle.drawing.specs.Fields as F
use Rattle.drawing.specs.Path.{Point, Outline, Segment, outline, counted_segments, joined_point, point, origin, segment, end_of}
use Rattle.ways.specs.LineStyleLaws.{dashes, dashed, dashes_and_offset}
use Rattle.ways.specs.Segments.{straight, closed_letter, segment_letter, doubles_behind, segments_of, segment_then, doubles_then}
use Rattle.ways.specs.SegmentLaws.{own_segment, free_segment, free_segments}
use Rattle.pieces.specs.declared.Inside.{Inside}
use Rattle.pieces.specs.Parts.{any_of, end_on, joined_on, part_then, parts_on, inside}
use Rattle.pieces.specs.PartLaws.{with_parts}

-- So many segments, the first of which is this part, behind a run of doubles; or the object's end.
abbrev pub segments_from : Inside → (part left doubles : ℕ) → Inside
segments_from s part n doubles =
    record { parts = cond (eqb n 0) 24 part; run = doubles; width = 8; segments = n - 1; x = s.x; y = s.y }

-- ---- the count

outline_apart : (v : ℕ) (K : Script (Unit {0})) → outline v ⟫ K ≡ (field closed_letter ⟫ counted_segments v ⟫ K)
outline_apart v K = two {Z = Outline} (field closed_letter) (counted_segments v) (λ (open_or_closed, (start, segments)). record { open_or_closed = open_or_closed; start = start; segments = segments })
    (λ o. (o.open_or_closed, (o.start, o.segments))) (λ t good. refl)
  where
    two : {A B Z : Type 0} (a : Layout A) (b : Layout B) (make : A × B → Z) (back : Z → A × B) (same : (t : A × B) → (a & b).Good t → back (make t) ≡ t) → renamed (a & b) make back same ⟫ K ≡ (a ⟫ b ⟫ K)
    two a b make back same = refl

pub outline-parts : (v : ℕ) (s : Inside) → outline v ⟫ end_on v ≡ field closed_letter ⟫ inside v (with_parts s 18)
unfolding inside parts_on part_then
outline-parts v s = outline_apart v (end_on v)

counted_apart : (v : ℕ) (K : Script (Unit {0})) → counted_segments v ⟫ K ≡ ask F.segment_count (λ n. cond (leb 3 v) (repeat 2 (field F.double) ⟫ segments_of (ltb v 3) n none ⟫ K) (segments_of (ltb v 3) n none ⟫ K))
counted_apart v K = refl

-- Segments from a part on, whose number of segments is one more than is kept.
segments-on : (v : ℕ) (s : Inside) (part n : ℕ) (doubles : ℕ) (all : ℕ → Script (Unit {0}))
    → all 0 ≡ end_on v → ((m : ℕ) → all (suc m) ≡ part_then v m s.x s.y part done) → ((m : ℕ) → parts_on v m s.x s.y 14 part ≡ part_then v m s.x s.y part done)
    → inside v (segments_from s part n doubles) ≡ repeat doubles (field F.double) ⟫ all n
unfolding inside parts_on part_then
segments-on v s part zero doubles all none_left more is = ap (λ X. repeat doubles (field F.double) ⟫ X) (sym none_left)
segments-on v s part (suc m) doubles all none_left more is =
    let less : suc m - 1 ≡ m = omega arith in
    ap₂ (λ p k. repeat doubles (field F.double) ⟫ parts_on v k s.x s.y 14 p) (ap (λ t. cond t 24 part) (ne_eqb (suc m) 0 (λ z. absurd (omega arith)))) less
    ∙ ap (λ X. repeat doubles (field F.double) ⟫ X) (is m ∙ sym (more m))

module _ (v : ℕ) (s : Inside) where
  -- without starts of their own; with them, the first one; and the next one behind another
  free_on : (n doubles : ℕ) → inside v (segments_from s 19 n doubles) ≡ repeat doubles (field F.double) ⟫ segments_of false n none ⟫ end_on v
  unfolding parts_on part_then
  free_on n doubles = segments-on v s 19 n doubles (λ n. segments_of false n none ⟫ end_on v) refl (λ m. refl) (λ m. refl)

  first_on : (n : ℕ) → inside v (segments_from s 20 n 0) ≡ segments_of true n none ⟫ end_on v
  unfolding parts_on part_then
  first_on n = segments-on v s 20 n 0 (λ n. segments_of true n none ⟫ end_on v) refl (λ m. refl) (λ m. refl)

  joined-on : (n : ℕ) → inside v (segments_from s 21 n 0) ≡ joined_on v n s.x s.y
  unfolding parts_on part_then
  joined-on n = segments-on v s 21 n 0 (λ n. joined_on v n s.x s.y) refl (λ m. refl) (λ m. refl)

  -- Behind the count: below 1.3, and from there on, where a start point comes before the segments.
  pub count_old : v < 3 → counted_segments v ⟫ end_on v ≡ ask F.segment_count (λ n. inside v (segments_from s 20 n 0))
  count_old old =
      counted_apart v (end_on v)
      ∙ ap₂ (λ t u. ask F.segment_count (λ n. cond t (repeat 2 (field F.double) ⟫ segments_of u n none ⟫ end_on v) (segments_of u n none ⟫ end_on v))) (lt-leb 3 v old) (lt-ltb v 3 old)
      ∙ ap (ask F.segment_count) (fun_ext (λ n. sym (first_on n)))

  pub count_new : 3 ≤ v → counted_segments v ⟫ end_on v ≡ ask F.segment_count (λ n. inside v (segments_from s 19 n 2))
  count_new new =
      counted_apart v (end_on v)
      ∙ ap₂ (λ t u. ask F.segment_count (λ n. cond t (repeat 2 (field F.double) ⟫ segments_of u n none ⟫ end_on v) (segments_of u n none ⟫ end_on v))) (le-leb 3 v new) (le-ltb v 3 new)
      ∙ ap (ask F.segment_count) (fun_ext (λ n. sym (free_on n 2)))

  -- ---- behind a segment's letter

  -- All but the letter of a segment without a start of its own is a run of doubles.
  pub free_letter : segments_of false (suc s.segments) none ⟫ end_on v ≡ ask segment_letter (λ c. inside v (segments_from s 19 s.segments (doubles_behind c)))
  free_letter =
      free_segments (suc s.segments) none (end_on v)
      ∙ free_segment (λ p. repeat s.segments (segment false none) ⟫ end_on v)
      ∙ ap (ask segment_letter) (fun_ext (λ c.
      ap (λ n. repeat n (field F.double) ⟫ repeat s.segments (segment false none) ⟫ end_on v) (none_before (doubles_behind c))
      ∙ ap (λ X. repeat (doubles_behind c) (field F.double) ⟫ X) (sym (free_segments s.segments none (end_on v)))
      ∙ sym (free_on s.segments (doubles_behind c))))
    where
      none_before : (n : ℕ) → 0 + n ≡ n
      none_before n = omega arith

  -- A start of its own, free or joined, comes before the doubles, of which the last two are the end.
  pub first_letter : segments_of true (suc s.segments) none ⟫ end_on v ≡ ask segment_letter (λ c. inside v (with_parts s (cond (straight c) 555 13905)))
  unfolding inside parts_on part_then
  first_letter =
      own_segment (λ e. segments_of true s.segments (some e) ⟫ end_on v) none
      ∙ ap (ask segment_letter) (fun_ext (λ c. by (straight c)))
    where
      by : (b : Bool) → point ⟫ doubles_then (cond b 2 6) (λ e. segments_of true s.segments (some e) ⟫ end_on v) ≡ inside v (with_parts s (cond b 555 13905))
      by true = refl
      by false = refl

  pub joined_letter : joined_on v (suc s.segments) s.x s.y ≡ ask segment_letter (λ c. inside v (with_parts s (cond (straight c) 557 13907)))
  unfolding inside parts_on part_then
  joined_letter =
      own_segment (λ e. segments_of true s.segments (some e) ⟫ end_on v) (some (record { x = s.x; y = s.y }))
      ∙ ap (ask segment_letter) (fun_ext (λ c. by (straight c)))
    where
      by : (b : Bool) → joined_point (some (record { x = s.x; y = s.y })) ⟫ doubles_then (cond b 2 6) (λ e. segments_of true s.segments (some e) ⟫ end_on v) ≡ inside v (with_parts s (cond b 557 13907))
      by true = refl
      by false = refl

  -- ---- behind its end

  pub end_x : ask F.double (λ x. ask F.double (λ y. joined_on v s.segments x y))
      ≡ ask F.double (λ x. inside v (record { parts = 23; run = 0; width = s.width; segments = s.segments; x = x; y = s.y }))
  unfolding inside parts_on part_then
  end_x = refl

pub end_y : (v : ℕ) (s : Inside) → ask F.double (λ y. joined_on v s.segments s.x y)
    ≡ ask F.double (λ y. inside v (segments_from (record { parts = 0; run = 0; width = 0; segments = 0; x = s.x; y = y }) 21 s.segments 0))
end_y v s = ap (ask F.double) (fun_ext (λ y. sym (joined-on v (record { parts = 0; run = 0; width = 0; segments = 0; x = s.x; y = y }) s.segments)))

-- ---- dashes

-- Dashes and their offset are one run.
pub dash_run : (K : Script (Unit {0})) → dashes ⟫ K ≡ ask F.dash_count (λ n. repeat (cond (eqb n 0) 0 (n + 1)) (field (any_of 4)) ⟫ K)
dash_run K = ap (ask F.dash_count) (fun_ext by)
  where
    by : (n : ℕ) → dashed F.float n K ≡ repeat (cond (eqb n 0) 0 (n + 1)) (field (any_of 4)) ⟫ K
    by zero = refl
    by (suc n) =
        dashes_and_offset F.float (suc n) K (λ z. absurd (omega arith))
        ∙ ap (λ t. repeat (cond t 0 (suc n + 1)) (field (any_of 4)) ⟫ K) (sym (ne_eqb (suc n) 0 (λ z. absurd (omega arith))))
