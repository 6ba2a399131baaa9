-- Segments with and without starts of their own.
use Rattle.std.specs.Prelude.{◌≡◌, refl, Bool, true, false, cond, ◌||◌, ℕ, zero, suc, ◌+◌, ◌-◌, ◌*◌, ◌^◌, ◌<◌, ◌≤◌, List, eqb, ltb, length, drop}
use Rattle.std.proofs.Common.{sym, ap, ap₂, ◌∙◌, arith, eq-eqb, eqb-true, ltb-true, ltb-false}
use Rattle.std.proofs.Math.Path.{fun_ext}
use Rattle.std.proofs.lemmas.Bool.{false≢true}
use Rattle.std.proofs.Math.Option.{Option, none, some}
use Rattle.std.proofs.Math.Nat as Nat
use Rattle.format.specs.Digits.{Below}
use Rattle.format.specs.LeafLaws.{field_below}
use Rattle.format.specs.Kind.{Kind}
use Rattle.format.specs.Kind as Kinds
use Rattle.format.specs.Codec.{Outcome, found}
use Rattle.format.specs.Codec as C
use Rattle.format.specs.FixedCodec.{spell_fixed}
use Rattle.format.specs.FixedReading.{fixed}
use Rattle.format.specs.LiteralLaws.{read_value}
use Rattle.format.specs.Script.{Script, ask}
use Rattle.format.specs.Format.{one, script}
use Rattle.format.specs.Layout.{field, repeat}
use Rattle.format.specs.Pass.{Passed, through, stopped, put, onward, pass, done, ◌⟫◌}
use Rattle.format.specs.RunLaws.{values_at, value_at_lem}
use Rattle.drawing.specs.Fields as F
use Rattle.drawing.specs.Path.{Point, Segment, point, joined_point, segment, end_of}
use Rattle.ways.specs.declared.Pass.{Pass}
use Rattle.ways.specs.Way.{Way, codec, route, source_units, target_units, value_at}
use Rattle.ways.specs.Passes.{refused, behind, Ready, stepped, behind_going, behind-stopped, behind_gone, stepped_ready}
use Rattle.ways.specs.Carries.{Progress, Carried, Laid, Valued}
use Rattle.ways.specs.LayoutLaws.{valued-laid}
use Rattle.ways.specs.StepLaws.{there_below}
use Rattle.ways.specs.Runs.{Any, AllSmall, copied, Runs}
use Rattle.ways.specs.RunLaws.{run-there}
use Rattle.ways.specs.Moves.{Moved, moved_valued, moved_nowhere}
use Rattle.ways.specs.Segments.{straight, segment_letter, doubles_behind, segments_of, Asking, segment_then, last_point, doubles_then, Letter, spelled, end_before, before, Stands, Joins, MovedSegment, Ended}

-- ---- the script of a segment

-- A segment with a start of its own is its letter, its start and as many doubles as the letter says.
pub own_segment : (next : Point → Script (Unit {0})) (at : Option Point) → segment_then true at next ≡ ask segment_letter (λ c. joined_point at ⟫ doubles_then (doubles_behind c) next)
own_segment next at = ap (ask segment_letter) (fun_ext (λ c. by (eqb c 76) (eqb c 77)))
  where
    by : (l m : Bool)
        → cond l (joined_point at ⟫ doubles_then 2 next) (cond m (joined_point at ⟫ doubles_then 2 next) (joined_point at ⟫ doubles_then 6 next))
        ≡ joined_point at ⟫ doubles_then (cond (l || m) 2 6) next
    by true m = refl
    by false true = refl
    by false false = refl

-- A point and the doubles behind it are one run.
point-doubles : (letter : ℕ) (next : Point → Script (Unit {0})) → point ⟫ doubles_then (doubles_behind letter) next ≡ doubles_then (2 + doubles_behind letter) next
point-doubles letter next = by (straight letter)
  where
    by : (b : Bool) → point ⟫ doubles_then (cond b 2 6) next ≡ doubles_then (2 + cond b 2 6) next
    by true = refl
    by false = refl

-- One whose start is free is a letter and doubles.
first-segment : (next : Point → Script (Unit {0})) → segment_then true none next ≡ spelled 2 next
first-segment next = own_segment next none ∙ ap (ask segment_letter) (fun_ext (λ c. point-doubles c next))

-- So is one without a start.
pub free_segment : (next : Point → Script (Unit {0})) → segment_then false none next ≡ spelled 0 next
free_segment next = ap (ask segment_letter) (fun_ext (λ c. by (eqb c 76) (eqb c 77)))
  where
    by : (l m : Bool) → cond l (doubles_then 2 next) (cond m (doubles_then 2 next) (doubles_then 6 next)) ≡ doubles_then (0 + cond (l || m) 2 6) next
    by true m = refl
    by false true = refl
    by false false = refl

-- Without starts of their own, segments do not depend on those before them.
pub free_segments : (n : ℕ) (at : Option Point) (K : Script (Unit {0})) → segments_of false n at ⟫ K ≡ repeat n (segment false none) ⟫ K
free_segments zero at K = refl
free_segments (suc n) at K = ap (λ (X : Segment → Script (Unit {0})). script (segment false none).format X) (fun_ext (λ s. free_segments n (some (end_of s)) K))

-- ---- the letter

pub curve_letter : {c : ℕ} → c ≡ 66 → Letter c 6
curve_letter {c} is = rw is (record { allowed = record { fits = omega arith; faultless = refl }; doubles-are = refl })

pub straight_letter : {c : ℕ} → straight c ≡ true → Letter c 2
straight_letter {c} is = by (eqb c 76) refl (eqb c 77) refl
  where
    by : (l : Bool) → eqb c 76 ≡ l → (m : Bool) → eqb c 77 ≡ m → Letter c 2
    by true e m f = rw (eqb-true c 76 e) (record { allowed = record { fits = omega arith; faultless = refl }; doubles-are = refl })
    by false e true f = rw (eqb-true c 77 f) (record { allowed = record { fits = omega arith; faultless = refl }; doubles-are = refl })
    by false e false f = absurd (false≢true (sym (ap₂ (λ x y. x || y) e f) ∙ is))

-- ---- how far a run has come

module _ (W : Way) (us : List ℕ) (k : Kind) where
  abbrev width : ℕ
  width = source_units W (Kinds.size k.shape)

  one_end : (n at : ℕ) (o : Outcome ℕ) (next : ℕ → Passed) (a b : ℕ) (l : List ℕ) → ((v : ℕ) → next v ≡ through a b l → a ≡ at + width + n * width) → onward (route W) at o next ≡ through a b l → a ≡ at + suc n * width
  one_end n at (found v rest) next a b l ih e = let is = ih v e in omega arith
  one_end n at (C.refused x place) next a b l ih e = let z : ◌≡◌ {A = ℕ} 0 1 = cc in absurd (omega arith)

  -- A pass that has come through is behind as many fields as there were.
  many_end : (n at to : ℕ) (m : List ℕ) (a b : ℕ) (l : List ℕ) → pass (route W) us (repeat n (field k) ⟫ done) at to m ≡ through a b l → a ≡ at + n * width
  many_end zero at to m a b l e = let is : at ≡ a = cc in omega arith
  many_end (suc n) at to m a b l e =
      one_end n at ((fixed (codec W.source)).read k (drop at us))
      (λ v. pass (route W) us (repeat n (field k) ⟫ done) (at + width) (to + target_units W (Kinds.size k.shape)) (put to (spell_fixed (codec W.target) k v) m)) a b l
      (λ v h. many_end n (at + width) (to + target_units W (Kinds.size k.shape)) (put to (spell_fixed (codec W.target) k v) m) a b l h) e

any-double : Any 8 F.double
any-double = record { sized = refl; all = refl; faultless = λ v. refl }

module _ {W : Way} {us m m' : List ℕ} {at to count : ℕ} {r : Pass} (runs : Runs W 8 count us m m' at to r) where
  run_end : r.at < refused → r.at ≡ at + count * source_units W 8
  run_end going = by (ltb at refused) refl
    where
      comes : behind W us m at to (repeat count (field F.double) ⟫ done) ≡ through r.at r.to m'
      comes = (runs.values F.double any-double).runs (λ vs. done) ∙ behind_going W us m' r.at r.to done going

      by : (b : Bool) → ltb at refused ≡ b → r.at ≡ at + count * source_units W 8
      by true e = many_end W us F.double count at to m r.at r.to m' (sym (behind_going W us m at to (repeat count (field F.double) ⟫ done) (ltb-true at refused e)) ∙ comes)
      by false e =
          let stops : stopped to (at - refused) ≡ through r.at r.to m' = sym (behind-stopped W us m at to (repeat count (field F.double) ⟫ done) (ltb-false at refused e)) ∙ comes in
          let z : ◌≡◌ {A = ℕ} 0 1 = cc in
          absurd (omega arith)

  -- The doubles of a run end with a point.
  run-ended : 2 ≤ count → Ended (doubles_then count) W us m m' at to r
  run-ended two =
      let values = runs.values F.double any-double in
      record {
        runs = λ next. values.runs (λ vs. next (last_point count vs)) ∙ by next (ltb r.at refused) refl;
        ready = values.ready;
        same_length = values.same_length;
        room = λ going.
            let end = run_end going in
            let more : 2 * source_units W 8 ≤ count * source_units W 8 = Nat.mul-le-mul_right (source_units W 8) two in
            omega arith;
      }
    where
      vs : List ℕ
      vs = values_at W.source.base (source_units W 8) us count at

      split : (n w a : ℕ) → 2 ≤ n → a ≡ at + n * w → (at + (n - 2) * w ≡ a - 2 * w) × (at + (n - 1) * w ≡ a - w)
      split zero w a two is = absurd (omega arith)
      split (suc zero) w a two is = absurd (omega arith)
      split (suc (suc n)) w a two is =
          let first : suc (suc n) - 2 ≡ n = omega arith in
          let second : suc (suc n) - 1 ≡ suc n = omega arith in
          (rw first (omega arith), rw second (omega arith))

      by : (next : Point → Script (Unit {0})) (b : Bool) → ltb r.at refused ≡ b → behind W us m' r.at r.to (next (last_point count vs)) ≡ behind W us m' r.at r.to (next (end_before W us r.at))
      by next true e =
          let places = split count (source_units W 8) r.at two (run_end (ltb-true r.at refused e)) in
          ap₂ (λ x y. behind W us m' r.at r.to (next (record { x = x; y = y })))
          (value_at_lem W.source.base (source_units W 8) us count at (count - 2) (omega arith) ∙ ap (value_at W 8 us) places.0)
          (value_at_lem W.source.base (source_units W 8) us count at (count - 1) (omega arith) ∙ ap (value_at W 8 us) places.1)
      by next false e = behind_gone W us m' m' r.at r.to (next (last_point count vs)) (next (end_before W us r.at)) (ltb-false r.at refused e)

-- Two of them are a point.
pub run-point : {W : Way} {us m m' : List ℕ} {at to : ℕ} {r : Pass} → Runs W 8 2 us m m' at to r → Laid point.format W us m m' at to r.at r.to
run-point runs = record { carried = (valued-laid (runs.values F.double any-double)).carried }

-- ---- a segment whose start is free, or that has none

two-doubles : (letter : ℕ) → 2 ≤ doubles_behind letter
two-doubles letter = by (straight letter)
  where
    by : (b : Bool) → 2 ≤ cond b 2 6
    by true = omega arith
    by false = omega arith

-- The letter, and then its doubles.
pub letter_spelled : (start : ℕ) {W : Way} {us m m₁ m' : List ℕ} {at to at₁ to₁ letter count : ℕ} {r : Pass}
    → Valued (one segment_letter) letter W us m m₁ at to at₁ to₁ → count ≡ start + doubles_behind letter → Runs W 8 count us m₁ m' at₁ to₁ r → Ended (spelled start) W us m m' at to r
letter_spelled start {W} {us} {m} {m₁} {m'} {at} {to} {at₁} {to₁} {letter} {count} {r} asked is runs =
    let two = two-doubles letter in
    let ended = run-ended runs (omega (arith, is)) in
    record {
      runs = λ next.
          asked.runs (λ c. doubles_then (start + doubles_behind c) next)
          ∙ ap (λ n. behind W us m₁ at₁ to₁ (doubles_then n next)) (sym is)
          ∙ ended.runs next;
      ready = ended.ready;
      same_length = ended.same_length ∙ asked.same_length;
      room = ended.room;
    }

-- The same where both were only moved.
pub moved_spelled : (start points : ℕ) {W : Way} {us m m' : List ℕ} {at to doubles : ℕ} {r : Pass}
    → Below W.source.base us → W.source.base ^ source_units W 8 ≤ 256 ^ 8 → Ready (length us) at to → at + source_units W 2 + 2 * points * source_units W 8 ≤ length us
    → Letter (value_at W 2 us at) doubles → 2 * points ≡ start + doubles → MovedSegment W points us m m' at to r → Ended (spelled start) W us m m' at to r
moved_spelled start points {W} {us} {m} {m'} {at} {to} {doubles} {r} below holds ready inside told is moved =
    let w = source_units W 8 in
    let at₁ = at + 1 * source_units W 2 in
    let to₁ = to + 1 * target_units W 2 in
    let one-there : at + 1 * source_units W 2 ≤ length us = omega arith in
    let room : at₁ + 2 * points * w ≤ length us = omega arith in
    let letter : Valued (one segment_letter) (value_at W 2 us at) W us m (copied W 2 1 us at to m) at to at₁ to₁
    = moved_valued segment_letter refl (omega arith) (omega arith) ready (there_below W us at 2 below (omega arith)) told.allowed (record { is = refl; memory-is = refl }) in
    let small : AllSmall W 8 us at₁ (2 * points) = λ i less.
    let more : suc i * w ≤ 2 * points * w = Nat.mul-le-mul_right w less in
    let one = field_below W.source.base us (at₁ + i * w) w (omega arith) below in
    omega arith
    in
    rw moved.is (letter_spelled start letter (is ∙ ap (λ n. start + n) (sym told.doubles-are)) (run-there W (2 * points) (stepped_ready W 2 1 ready one-there (omega arith) (omega arith)) (omega arith) (omega arith) room small moved.memory-is))

-- Into no memory both are one step.
pub segment_nowhere : (points : ℕ) {W : Way} {us m : List ℕ} {at to : ℕ} {r : Pass} → length m ≡ 0 → r ≡ stepped W 8 (2 * points) (at + 1 * source_units W 2) (to + 1 * target_units W 2) → MovedSegment W points us m m at to r
segment_nowhere points {W} {us} {m} {at} {to} empty is =
    let at₁ = at + 1 * source_units W 2 in
    let to₁ = to + 1 * target_units W 2 in
    let letter : Moved W 2 1 us m m at to (stepped W 2 1 at to) = moved_nowhere W 2 1 empty refl in
    let rest : Moved W 8 (2 * points) us m m at₁ to₁ (stepped W 8 (2 * points) at₁ to₁) = moved_nowhere W 8 (2 * points) empty refl in
    record { is = is; memory-is = rest.memory-is ∙ ap (copied W 8 (2 * points) us at₁ to₁) letter.memory-is }

-- A letter, and then points.
pub segment_moved : (points : ℕ) {W : Way} {us m m₁ m' : List ℕ} {at to : ℕ} {q r : Pass} → Moved W 2 1 us m m₁ at to q → Moved W 8 (2 * points) us m₁ m' q.at q.to r → MovedSegment W points us m m' at to r
segment_moved points {W} {us} {m} {m₁} {m'} {at} {to} {q} {r} letter rest =
    let at-is : q.at ≡ at + 1 * source_units W 2 = ap (λ (q : Pass). q.at) letter.is in
    let to_is : q.to ≡ to + 1 * target_units W 2 = ap (λ (q : Pass). q.to) letter.is in
    record {
      is = rest.is ∙ ap₂ (λ a b. stepped W 8 (2 * points) a b) at-is to_is;
      memory-is = rest.memory-is ∙ ap₂ (λ a b. copied W 8 (2 * points) us a b m₁) at-is to_is ∙ ap (copied W 8 (2 * points) us (at + 1 * source_units W 2) (to + 1 * target_units W 2)) letter.memory-is;
    }

module _ {W : Way} {us m m' : List ℕ} {at to : ℕ} {r : Pass} where
  -- Fields that come to the same.
  ended_same : {these those : Asking} → ((next : Point → Script (Unit {0})) → behind W us m at to (these next) ≡ behind W us m at to (those next)) → Ended those W us m m' at to r → Ended these W us m m' at to r
  ended_same same ended =
      record { runs = λ next. same next ∙ ended.runs next; ready = ended.ready; same_length = ended.same_length; room = ended.room }

  pub free_laid : Ended (spelled 0) W us m m' at to r → Laid (segment false none).format W us m m' at to r.at r.to
  free_laid ended =
      record {
        carried =
            record {
              runs = λ K. ap (behind W us m at to) (free_segment (λ p. K)) ∙ ended.runs (λ p. K);
              ready = ended.ready;
              same_length = ended.same_length;
            };
      }

  pub first_ended : Ended (spelled 2) W us m m' at to r → Ended (segment_then true none) W us m m' at to r
  first_ended ended = ended_same (λ next. ap (behind W us m at to) (first-segment next)) ended

-- ---- a start that has the bits that it has to have

module _ (W : Way) (us : List ℕ) (below : Below W.source.base us) (holds : W.source.base ^ source_units W 8 ≤ 256 ^ 8) where
  -- It is read as any double is.
  read_joined : (at x : ℕ) → at + source_units W 8 ≤ length us → value_at W 8 us at ≡ x → (fixed (codec W.source)).read (F.joined x) (drop at us) ≡ (fixed (codec W.source)).read F.double (drop at us)
  read_joined at x inside is =
      let small = field_below W.source.base us at (source_units W 8) inside below in
      let fits : x < 256 ^ 8 = omega arith in
      let meant : x ≡ W.source.meant Kinds.double (value_at W 8 us at) = sym (W.source.plain Kinds.double (value_at W 8 us at) refl ∙ is) in
      read_value W.source.base (λ s. source_units W (Kinds.size s)) W.source.meant W.source.missing W.source.meaningless us at (F.joined x) x inside meant (record { fits = fits; faultless = rw (eq-eqb x x refl) })
      ∙ sym (read_value W.source.base (λ s. source_units W (Kinds.size s)) W.source.meant W.source.missing W.source.meaningless us at F.double x inside meant (record { fits = fits; faultless = refl }))

  joined-point : (at to : ℕ) (m : List ℕ) (p : Point) (K : Script (Unit {0})) → Stands W us at p → pass (route W) us (joined_point (some p) ⟫ K) at to m ≡ pass (route W) us (point ⟫ K) at to m
  joined-point at to m p K stands =
      let inside = stands.inside in
      ap₂ (λ o f. onward (route W) at o f) (read_joined at p.x (omega arith) stands.x-is) (fun_ext (λ v. second v (read_joined (at + source_units W 8) p.y (omega arith) stands.y-is)))
    where
      second : (v : ℕ) → (fixed (codec W.source)).read (F.joined p.y) (drop (at + source_units W 8) us) ≡ (fixed (codec W.source)).read F.double (drop (at + source_units W 8) us)
          → pass (route W) us (ask (F.joined p.y) (λ b. K)) (at + source_units W 8) (to + target_units W 8) (put to (spell_fixed (codec W.target) F.double v) m)
          ≡ pass (route W) us (ask F.double (λ b. K)) (at + source_units W 8) (to + target_units W 8) (put to (spell_fixed (codec W.target) F.double v) m)
      second v same =
          ap (λ o. onward (route W) (at + source_units W 8) o (λ w. pass (route W) us K (at + source_units W 8 + source_units W 8) (to + target_units W 8 + target_units W 8) (put (to + target_units W 8) (spell_fixed (codec W.target) F.double w) (put to (spell_fixed (codec W.target) F.double v) m)))) same

  -- What comes behind a letter comes to the same whatever was put.
  letter_same : (at to : ℕ) (m : List ℕ) (these those : ℕ → Script (Unit {0})) → ((v : ℕ) (m₁ : List ℕ) → pass (route W) us (these v) (at + source_units W 2) (to + target_units W 2) m₁ ≡ pass (route W) us (those v) (at + source_units W 2) (to + target_units W 2) m₁)
      → behind W us m at to (ask segment_letter these) ≡ behind W us m at to (ask segment_letter those)
  letter_same at to m these those same =
      ap (λ f. cond (ltb at refused) (onward (route W) at ((fixed (codec W.source)).read segment_letter (drop at us)) f) (stopped to (at - refused))) (fun_ext (λ v. same v (put to (spell_fixed (codec W.target) segment_letter v) m)))

  -- Its start is free, or the end before it.
  pub joins_ended : (first : Bool) {m m' : List ℕ} {at to : ℕ} {r : Pass} → Joins W first us at → Ended (spelled 2) W us m m' at to r → Ended (segment_then true (before W first us at)) W us m m' at to r
  joins_ended true joins ended = first_ended ended
  joins_ended false {m} {m'} {at} {to} {r} joins ended =
      let p = end_before W us at in
      ended_same
      (λ next.
      ap (behind W us m at to) (own_segment next (some p))
      ∙ letter_same at to m (λ c. joined_point (some p) ⟫ doubles_then (doubles_behind c) next) (λ c. doubles_then (2 + doubles_behind c) next) (λ v m₁.
      joined-point (at + source_units W 2) (to + target_units W 2) m₁ p (doubles_then (doubles_behind v) next) (joins.stands refl)
      ∙ ap (λ K. pass (route W) us K (at + source_units W 2) (to + target_units W 2) m₁) (point-doubles v next))) ended

-- ---- a start that is passed field by field

pub joined-laid : {W : Way} {us m m₁ m' : List ℕ} {at to at₁ to₁ at' to' x y v w : ℕ} (p : Point) → x ≡ p.x → y ≡ p.y
    → Valued (one (F.joined x)) v W us m m₁ at to at₁ to₁ → Valued (one (F.joined y)) w W us m₁ m' at₁ to₁ at' to' → Laid (joined_point (some p)).format W us m m' at to at' to'
joined-laid {W} {us} {m} {m₁} {at = at} {to} {at₁} {to₁} p x-is y-is across up =
    record {
      carried =
          record {
            runs = λ K.
                ap (λ n. behind W us m at to (ask (F.joined n) (λ a. ask (F.joined p.y) (λ b. K)))) (sym x-is)
                ∙ across.runs (λ a. ask (F.joined p.y) (λ b. K))
                ∙ ap (λ n. behind W us m₁ at₁ to₁ (ask (F.joined n) (λ b. K))) (sym y-is)
                ∙ up.runs (λ b. K);
            ready = up.ready;
            same_length = up.same_length ∙ across.same_length;
          };
    }

pub joined-ended : {W : Way} {us m m₁ m₂ m' : List ℕ} {at to at₁ to₁ at₂ to₂ letter count : ℕ} {r : Pass} (p : Point)
    → Valued (one segment_letter) letter W us m m₁ at to at₁ to₁ → Laid (joined_point (some p)).format W us m₁ m₂ at₁ to₁ at₂ to₂ → count ≡ doubles_behind letter → Runs W 8 count us m₂ m' at₂ to₂ r
    → Ended (segment_then true (some p)) W us m m' at to r
joined-ended {W} {us} {m} {m₁} {m₂} {m'} {at} {to} {at₁} {to₁} {at₂} {to₂} {letter} {count} {r} p asked start is runs =
    let two = two-doubles letter in
    let ended = run-ended runs (omega (arith, is)) in
    record {
      runs = λ next.
          ap (behind W us m at to) (own_segment next (some p))
          ∙ asked.runs (λ c. joined_point (some p) ⟫ doubles_then (doubles_behind c) next)
          ∙ start.carried.runs (doubles_then (doubles_behind letter) next)
          ∙ ap (λ n. behind W us m₂ at₂ to₂ (doubles_then n next)) (sym is)
          ∙ ended.runs next;
      ready = ended.ready;
      same_length = ended.same_length ∙ start.carried.same_length ∙ asked.same_length;
      room = ended.room;
    }

-- ---- segment by segment

module _ {W : Way} {us m m' : List ℕ} {at to : ℕ} {r : Pass} where
  -- One of the segments that are left.
  pub one-segment : (left : ℕ) (b : Option Point) → 0 < left → Ended (segment_then true b) W us m m' at to r
      → Progress (λ K. segments_of true left b ⟫ K) (λ K. segments_of true (left - 1) (before W false us r.at) ⟫ K) W us m m' at to r.at r.to
  one-segment zero b more ended = absurd (omega arith)
  one-segment (suc n) b more ended =
      record {
        runs = λ K. ended.runs (λ e. segments_of true n (some e) ⟫ K) ∙ ap (λ i. behind W us m' r.at r.to (segments_of true i (before W false us r.at) ⟫ K)) (less_one n);
        ready = ended.ready;
        same_length = ended.same_length;
      }
    where
      less_one : (n : ℕ) → n ≡ suc n - 1
      less_one n = omega arith

-- Without starts they are passed one as the other.
pub free_segments-laid : (n : ℕ) {W : Way} {us m m' : List ℕ} {at to at' to' : ℕ} → Carried (λ K. repeat n (segment false none) ⟫ K) W us m m' at to at' to' → Laid (segments_of false n none).format W us m m' at to at' to'
free_segments-laid n {W} {us} {m} {at = at} {to} all =
    record {
      carried =
          record {
            runs = λ K. ap (behind W us m at to) (free_segments n none K) ∙ all.runs K;
            ready = all.ready;
            same_length = all.same_length;
          };
    }

-- No segment is left.
pub none-segment : (left : ℕ) (b : Option Point) {W : Way} {us m : List ℕ} {at to : ℕ} → (0 < left → ⊥) → Ready (length us) at to → Carried (λ K. segments_of true left b ⟫ K) W us m m at to at to
none-segment zero b done ready = record { runs = λ K. refl; ready = ready; same_length = refl }
none-segment (suc n) b done ready = absurd (done (omega arith))
