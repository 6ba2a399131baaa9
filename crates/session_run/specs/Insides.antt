-- What the functions over the parts of an object promise: one part was judged, and what is left of the object is what is left behind it.
use Rattle.std.specs.Prelude.{◌≡◌, Bool, true, false, ℕ, zero, suc, ◌+◌, ◌-◌, ◌*◌, ◌/◌, ◌%◌, ◌^◌, ◌<◌, ◌≤◌, List, eqb, drop}
use Rattle.std.proofs.Math.Path.{refl, ap, fun_ext}
use Rattle.std.proofs.Common.{sym, ◌∙◌, subst, drop-drop, le-leb, ne_eqb}
use Rattle.std.proofs.Math.Bool.{cond}
use Rattle.std.proofs.Math.Nat as Nat
use native.Mathlib.Omega.{arith}
use Rattle.std.proofs.Math.ListN.{length, length-drop}
use Rattle.std.proofs.lemmas.Bool.{lt-leb}
use Rattle.format.specs.Digits.{Below}
use Rattle.format.specs.LeafLaws.{below_drop}
use Rattle.format.specs.Kind.{Kind, size, char}
use Rattle.format.specs.Script.{Script, ask}
use Rattle.format.specs.Layout.{field, repeat}
use Rattle.format.specs.Pass.{◌⟫◌, done}
use Rattle.drawing.specs.Fields as F
use Rattle.drawing.specs.String.{string, chars}
use Rattle.ways.specs.declared.Pass.{Pass}
use Rattle.ways.specs.declared.FieldPass.{FieldPass}
use Rattle.ways.specs.Passes.{refused, Ready, refusal_of}
use Rattle.ways.specs.Runs.{Any}
use Rattle.ways.specs.Carries.{Asked}
use Rattle.ways.specs.Segments.{straight, doubles_behind, closed_letter, segment_letter}
use Rattle.from_file.specs.Way.{way}
use Rattle.pieces.specs.declared.Inside.{Inside}
use Rattle.pieces.specs.Going.{room, goes_is, goes_same}
use Rattle.pieces.specs.FieldLaws.{run-goes, chars-goes}
use Rattle.pieces.specs.Parts.{any_of, part_then, parts_on, inside}
use Rattle.pieces.specs.PartLaws.{with_parts, next_part, is_dashes, is_string, is_words, is_latex, is_latex_along, is_links, is_outline, is_count, is_segment, is_first, is_joined, is_end_x, is_end_y}
use Rattle.pieces.specs.LeafLaws.{text-flag, along_flag, links_flag}
use Rattle.pieces.specs.OutlineLaws.{segments_from, outline-parts, count_old, count_new, free_letter, first_letter, joined_letter, end_x, end_y, dash_run}
use Rattle.session_run.specs.declared.cursor.Cursor.{Cursor}
use Rattle.session_run.specs.declared.cursor.Step.{Step}
use Rattle.session_run.specs.Steps.{StepsTo, steps_same, steps_gone, steps_silent, field_steps}
use Rattle.session_run.specs.Wholes.{PartWhole}
use Rattle.session_run.specs.Told.{Told, told-cut}

pub record InsideSteps (v : ℕ) (s : Inside) (us : List ℕ) (at to : ℕ) (r : Step Inside) : Type 0 where
  pub steps : StepsTo (inside v s) (inside v r.left) us at to r.pass.at r.pass.to

-- The same from a place in a file's bytes.
abbrev pub InsideHere : (v : ℕ) → Inside → Cursor → Step Inside → Type 0
InsideHere v s here r = InsideSteps v s here.src.now here.at here.to r

-- No run comes before the next part, which is this one.
pub record Next (s : Inside) (part : ℕ) : Type 0 where
  pub no_run : s.run ≡ 0
  pub digit : s.parts % 25 ≡ part
  pub small : s.parts < 2 ^ 64

-- Something is left of the object.
pub record Opened (s : Inside) : Type 0 where
  pub more : s.run ≡ 0 → 0 < s.parts % 25

-- The same with so many fields of so many bytes before other parts.
abbrev pub with_run : Inside → (parts run width : ℕ) → Inside
with_run s p n w = record { parts = p; run = n; width = w; segments = s.segments; x = s.x; y = s.y }

-- ---- whole parts

pub whole-inside : {v : ℕ} {s : Inside} {part : ℕ} {us : List ℕ} {at to : ℕ} {p : Pass} → Next s part → PartWhole v s.x s.y part us at to p
    → InsideSteps v s us at to (record { left = with_parts s (s.parts / 25); pass = p })
whole-inside {v} {s} {part} next whole =
    record { steps = steps_same (next_part v s part next.no_run next.digit next.small) refl (whole.steps s.segments (inside v (with_parts s (s.parts / 25)))) }

-- ---- fields that tell what follows

-- A field of this kind comes next, and its value tells what is left behind it.
pub record Telling (v : ℕ) (s : Inside) (k : Kind) (then : ℕ → Inside) : Type 0 where
  pub is : inside v s ≡ ask k (λ n. inside v (then n))

module _ {v : ℕ} {s : Inside} {k : Kind} {then : ℕ → Inside} (telling : Telling v s k then) {us : List ℕ} {at to : ℕ} {q : FieldPass} where
  -- by a function of `layout`, and by one of those beside it
  pub asked-inside : 0 < size k.shape → size k.shape ≤ room → Below 256 us → at ≤ length us → {m m' : List ℕ} → Asked k way us m m' at to q → {s' : Inside} → s' ≡ then q.value
      → InsideSteps v s us at to (record { left = s'; pass = q.pass })
  asked-inside wide fits below inside-them asked is =
      record { steps = steps_same telling.is (ap (inside v) (sym is)) (field_steps k wide fits (λ n. inside v (then n)) below inside-them asked) }

  pub told-inside : Told (Unit {0}) k us at to q → {s' : Inside} → s' ≡ then q.value → InsideSteps v s us at to (record { left = s'; pass = q.pass })
  told-inside told is = record { steps = steps_same telling.is (ap (inside v) (sym is)) (told.steps (λ n. inside v (then n))) }

module _ (v : ℕ) (s : Inside) where
  at_digit : {part : ℕ} → Next s part → inside v s ≡ part_then v s.segments s.x s.y part (inside v (with_parts s (s.parts / 25)))
  at_digit {part} next = next_part v s part next.no_run next.digit next.small

  pub dashes_tell : Next s 11 → Telling v s F.dash_count (λ n. with_run s (s.parts / 25) (cond (eqb n 0) 0 (n + 1)) 4)
  unfolding inside
  dashes_tell next = record { is = at_digit next ∙ is_dashes v s.segments s.x s.y (inside v (with_parts s (s.parts / 25))) ∙ dash_run (inside v (with_parts s (s.parts / 25))) }

  flags : (one other : ℕ) → ask F.flag (λ f. cond (eqb f 1) (inside v (with_parts s one)) (inside v (with_parts s other))) ≡ ask F.flag (λ f. inside v (with_parts s (cond (eqb f 1) one other)))
  flags one other = ap (ask F.flag) (fun_ext (λ f. by (eqb f 1)))
    where
      by : (b : Bool) → cond b (inside v (with_parts s one)) (inside v (with_parts s other)) ≡ inside v (with_parts s (cond b one other))
      by true = refl
      by false = refl

  pub latex_tells : Next s 14 → Telling v s F.flag (λ f. with_parts s (cond (eqb f 1) 3741820507812 15326))
  latex_tells next = record { is = at_digit next ∙ is_latex v s.segments s.x s.y (inside v (with_parts s (s.parts / 25))) ∙ text-flag v s ∙ flags 3741820507812 15326 }

  pub along_tells : Next s 15 → Telling v s F.flag (λ f. with_parts s (cond (eqb f 1) 107054882812 438))
  along_tells next = record { is = at_digit next ∙ is_latex_along v s.segments s.x s.y (inside v (with_parts s (s.parts / 25))) ∙ along_flag v s ∙ flags 107054882812 438 }

  pub links_tell : Next s 16 → Telling v s F.flag (λ f. with_parts s (cond (eqb f 1) 380937 609))
  links_tell next = record { is = at_digit next ∙ is_links v s.segments s.x s.y (inside v (with_parts s (s.parts / 25))) ∙ links_flag v s ∙ flags 380937 609 }

  pub outline_tells : Next s 17 → Telling v s closed_letter (λ c. with_parts s 18)
  outline_tells next = record { is = at_digit next ∙ is_outline v s.segments s.x s.y (inside v (with_parts s (s.parts / 25))) ∙ outline-parts v s }

  pub count_tells_old : Next s 18 → v < 3 → Telling v s F.segment_count (λ n. segments_from s 20 n 0)
  count_tells_old next old = record { is = at_digit next ∙ is_count v s.segments s.x s.y (inside v (with_parts s (s.parts / 25))) ∙ count_old v s old }

  pub count_tells_new : Next s 18 → 3 ≤ v → Telling v s F.segment_count (λ n. segments_from s 19 n 2)
  count_tells_new next new = record { is = at_digit next ∙ is_count v s.segments s.x s.y (inside v (with_parts s (s.parts / 25))) ∙ count_new v s new }

  pub segment_tells : Next s 19 → Telling v s segment_letter (λ c. segments_from s 19 s.segments (doubles_behind c))
  segment_tells next = record { is = at_digit next ∙ is_segment v s.segments s.x s.y (inside v (with_parts s (s.parts / 25))) ∙ free_letter v s }

  pub first_tells : Next s 20 → Telling v s segment_letter (λ c. with_parts s (cond (straight c) 555 13905))
  first_tells next = record { is = at_digit next ∙ is_first v s.segments s.x s.y (inside v (with_parts s (s.parts / 25))) ∙ first_letter v s }

  pub joined_tells : Next s 21 → Telling v s segment_letter (λ c. with_parts s (cond (straight c) 557 13907))
  joined_tells next = record { is = at_digit next ∙ is_joined v s.segments s.x s.y (inside v (with_parts s (s.parts / 25))) ∙ joined_letter v s }

  pub x_tells : Next s 22 → Telling v s F.double (λ x. record { parts = 23; run = 0; width = s.width; segments = s.segments; x = x; y = s.y })
  x_tells next = record { is = at_digit next ∙ is_end_x v s.segments s.x s.y (inside v (with_parts s (s.parts / 25))) ∙ end_x v s }

  pub y_tells : Next s 23 → Telling v s F.double (λ y. segments_from (record { parts = 0; run = 0; width = 0; segments = 0; x = s.x; y = y }) 21 s.segments 0)
  y_tells next = record { is = at_digit next ∙ is_end_y v s.segments s.x s.y (inside v (with_parts s (s.parts / 25))) ∙ end_y v s }

  -- Below 1.2 the flow frame flag is all that ends an object.
  pub end_tells_old : Next s 24 → v < 2 → Telling v s F.flow_flag (λ f. with_parts s 0)
  unfolding inside parts_on part_then
  end_tells_old next old =
      record { is = at_digit next ∙ ap (λ t. ask F.flow_flag (λ f. cond t (string 0 ⟫ done) done)) (lt-leb 2 v old) }

  pub end_tells_new : Next s 24 → 2 ≤ v → Telling v s F.flow_flag (λ f. with_parts s 12)
  unfolding inside parts_on part_then
  end_tells_new next new =
      record { is = at_digit next ∙ ap (λ t. ask F.flow_flag (λ f. cond t (string 0 ⟫ done) done)) (le-leb 2 v new) }

-- A string's length comes next: its chars are a run.
pub record Spelling (v : ℕ) (s : Inside) (least : ℕ) : Type 0 where
  pub is : inside v s ≡ string least ⟫ inside v (with_parts s (s.parts / 25))

module _ (v : ℕ) (s : Inside) where
  pub string_spells : Next s 12 → Spelling v s 0
  string_spells next = record { is = next_part v s 12 next.no_run next.digit next.small ∙ is_string v s.segments s.x s.y (inside v (with_parts s (s.parts / 25))) }

  pub words_spell : Next s 13 → Spelling v s 1
  words_spell next = record { is = next_part v s 13 next.no_run next.digit next.small ∙ is_words v s.segments s.x s.y (inside v (with_parts s (s.parts / 25))) }

  pub string-inside : {least : ℕ} → Spelling v s least → {us : List ℕ} {at to : ℕ} {q : FieldPass} → Below 256 us → at ≤ length us → {m m' : List ℕ} → Asked (F.string_length least) way us m m' at to q
      → InsideSteps v s us at to (record { left = with_run s (s.parts / 25) q.value 2; pass = q.pass })
  unfolding inside
  string-inside {least} spelling {us} {q = q} below inside-them asked =
      let K = inside v (with_parts s (s.parts / 25)) in
      record {
        steps =
            steps_silent
            (steps_same spelling.is refl (field_steps (F.string_length least) (omega arith) (omega arith) (λ n. chars n ⟫ K) below inside-them asked))
            (λ on. chars-goes q.value K (drop q.pass.at us));
      }

-- ---- runs

-- A run of fields begins with one.
run_begins : (v : ℕ) (s : Inside) (n : ℕ) → s.run ≡ suc n → inside v s ≡ ask (any_of s.width) (λ c. repeat n (field (any_of s.width)) ⟫ parts_on v s.segments s.x s.y 14 s.parts)
unfolding inside
run_begins v s n e = ap (λ n. repeat n (field (any_of s.width)) ⟫ parts_on v s.segments s.x s.y 14 s.parts) e

few_words : (n : ℕ) → 0 < n → (n + 3) / 4 ≤ n
few_words n some-there = omega arith

-- The bytes of a run's field.
pub record Fielded (w bytes : ℕ) : Type 0 where
  pub any : Any bytes (any_of w)
  pub some : 0 < bytes
  pub few : bytes ≤ 8

module _ (v : ℕ) (s : Inside) {bytes : ℕ} (fielded : Fielded s.width bytes) {us : List ℕ} (below : Below 256 us) {at to : ℕ} (ready : Ready (length us) at to) (there : at ≤ length us) where
  -- So many of its fields are there.
  pub run_inside : (taken left : ℕ) → 0 < taken → s.run ≡ taken + left → taken * bytes ≤ length us - at
      → InsideSteps v s us at to (record { left = with_run s s.parts left s.width; pass = record { at = at + taken * bytes; to = to + taken * ((bytes + 3) / 4) } })
  unfolding inside
  run_inside taken left more all fits =
      let K = parts_on v s.segments s.x s.y 14 s.parts in
      let least : taken * 1 ≤ taken * bytes = Nat.mul-le-mul_left taken fielded.some in
      let each : (bytes + 3) / 4 ≤ bytes = few_words bytes fielded.some in
      let words : taken * ((bytes + 3) / 4) ≤ taken * bytes = Nat.mul-le-mul_left taken each in
      let short = ready.short in
      let small : taken * bytes ≤ length (drop at us) = rw length-drop fits in
      record {
        steps =
            record {
              goes = λ on.
                  let sum : taken * ((bytes + 3) / 4) ≡ to + taken * ((bytes + 3) / 4) - to = omega arith in
                  goes_same (ap (λ n. repeat n (field (any_of s.width)) ⟫ K) all) refl
                  (goes_is (drop-drop (taken * bytes) at us) sum (run-goes bytes (any_of s.width) fielded.any K taken left (below_drop 256 at us below) small));
              moves = λ on. (omega arith, omega arith, omega arith, omega arith);
              stops = λ off. absurd (omega arith);
              ready =
                  let few = ready.few (omega arith) in
                  record { short = short; near = omega arith; inside = λ h. omega arith; few = λ h. omega arith };
            };
      }

  -- Not even one.
  pub run-cut : 0 < s.run → length us - at < bytes → {p : Pass} → p ≡ refusal_of way 2 at → InsideSteps v s us at to (record { left = s; pass = p })
  run-cut more short {p} is = record { steps = steps_gone off (by s.run refl) }
    where
      off : refused ≤ p.at
      off = let at-is : p.at ≡ at + refused = ap (λ (p : Pass). p.at) is in omega arith

      K : Script (Unit {0})
      K = parts_on v s.segments s.x s.y 14 s.parts

      k : Kind
      k = any_of s.width

      sized : size k.shape ≡ bytes
      sized = fielded.any.sized

      cut : Told (Unit {0}) k us at to (record { value = 0; pass = p })
      cut =
          told-cut k (fielded.any.all ∙ ap (λ n. 256 ^ n) (sym sized)) (omega (arith, fielded.some)) (omega (arith, fielded.few)) below ready there (omega arith)
          (ap {B = FieldPass} (λ p. record { value = 0; pass = p }) is)

      by : (n : ℕ) → s.run ≡ n → StepsTo (inside v s) (inside v s) us at to p.at p.to
      by zero e = absurd (omega arith)
      by (suc n) e = steps_gone off (steps_same (begins n e) refl (cut.steps (λ c. repeat n (field k) ⟫ K)))
        where
          begins : (n : ℕ) → s.run ≡ suc n → inside v s ≡ ask k (λ c. repeat n (field k) ⟫ K)
          begins n e = run_begins v s n e

-- As many fields as are there fit, with their words.
pub fields_fit : (n bytes taken : ℕ) → 0 < bytes → taken ≤ n / bytes → (taken * bytes ≤ n) × (taken * ((bytes + 3) / 4) ≤ n)
fields_fit n bytes taken positive few =
    let all = Nat.div-mul-le_self n bytes in
    let some_of : taken * bytes ≤ n / bytes * bytes = Nat.mul-le-mul_right bytes few in
    let words : taken * ((bytes + 3) / 4) ≤ taken * bytes = Nat.mul-le-mul_left taken (few_words bytes positive) in
    (omega arith, omega arith)

pub none-fits : (n bytes : ℕ) → 0 < bytes → n / bytes ≡ 0 → n < bytes
none-fits n bytes positive is =
    let sum = Nat.div-add-mod' n bytes in
    let less = Nat.mod-lt n positive in
    let none-there : n / bytes * bytes ≡ 0 = ap (λ q. q * bytes) is ∙ Nat.zero-mul bytes in
    omega arith

pub next_is : {s : Inside} {part c : ℕ} → part ≡ c → Next s part → Next s c
next_is is next = record { no_run = next.no_run; digit = next.digit ∙ is; small = next.small }

-- The bytes of a run's field, by the width that is kept.
pub two_bytes : {w : ℕ} → w ≡ 2 → Fielded w 2
two_bytes is = subst (λ w. Fielded w 2) (sym is) (record { any = record { sized = refl; all = refl; faultless = λ v. refl }; some = omega arith; few = omega arith })

pub four_bytes : {w : ℕ} → w ≡ 4 → Fielded w 4
four_bytes is = subst (λ w. Fielded w 4) (sym is) (record { any = record { sized = refl; all = refl; faultless = λ v. refl }; some = omega arith; few = omega arith })

pub eight_bytes : {w : ℕ} → (w ≡ 2 → ⊥) → (w ≡ 4 → ⊥) → Fielded w 8
eight_bytes {w} not-two not-four =
    record {
      any = subst (Any 8) (sym (ap (λ t. cond t (F.any char) (cond (eqb w 4) F.float F.double)) (ne_eqb w 2 not-two) ∙ ap (λ t. cond t F.float F.double) (ne_eqb w 4 not-four))) (record { sized = refl; all = refl; faultless = λ v. refl });
      some = omega arith;
      few = omega arith;
    }

-- What `segments_from` returns.
module _ (s : Inside) (part doubles : ℕ) {left : ℕ} where
  pub last_segment : left ≡ 0 → ◌≡◌ {A = Inside} (record { parts = 24; run = doubles; width = 8; segments = 0; x = s.x; y = s.y }) (segments_from s part left doubles)
  last_segment is = sym (ap (λ n. segments_from s part n doubles) is)

  pub more_segments : (left ≡ 0 → ⊥) → ◌≡◌ {A = Inside} (record { parts = part; run = doubles; width = 8; segments = left - 1; x = s.x; y = s.y }) (segments_from s part left doubles)
  more_segments more = ap {B = Inside} (λ t. record { parts = cond t 24 part; run = doubles; width = 8; segments = left - 1; x = s.x; y = s.y }) (sym (ne_eqb left 0 more))
