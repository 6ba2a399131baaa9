-- One field, by the primitives: it is there or not, and then kept or refused.
use Rattle.std.specs.Prelude.{◌≡◌, refl, ◌⊎◌, Bool, true, false, ℕ, zero, suc, ◌+◌, ◌-◌, ◌*◌, ◌^◌, ◌<◌, ◌≤◌, List, ltb, length, drop}
use Rattle.std.proofs.Common.{sym, ap, ap₂, ◌∙◌, inl, inr, arith, ltb-true, ltb-false}
use Rattle.format.specs.Digits.{digits, Below}
use Rattle.format.specs.LeafLaws.{field_below}
use Rattle.format.specs.Kind.{Kind, Allowed}
use Rattle.format.specs.Kind as K
use Rattle.format.specs.Codec as C
use Rattle.format.specs.FixedReading.{fixed}
use Rattle.format.specs.LiteralLaws.{fault_of, read_cut_lem, read_fault, read_value}
use Rattle.format.specs.Script.{Script, ask}
use Rattle.format.specs.Format.{one}
use Rattle.format.specs.Pass.{Passed, put, stopped, onward, pass}
use Rattle.format.specs.PassLaws.{length-put}
use Rattle.ways.specs.declared.Pass.{Pass}
use Rattle.ways.specs.declared.FieldPass.{FieldPass}
use Rattle.ways.specs.Way.{Way, Exact, Blind, codec, route, source_units, target_units, value_at}
use Rattle.ways.specs.Passes.{refused, behind, Ready, stepped, behind_going, behind-refusal, refusal_ready, still_going, stepped_ready, step_small}
use Rattle.ways.specs.Carries.{Valued, Asked}
use Rattle.ways.specs.LayoutLaws.{gone_valued}
use Rattle.ways.specs.Steps.{Fits, Small, Refused, Keeps}
use Rattle.ways.specs.Faults.{Judges}

-- A field that is cut has the number that the code gives it.
pub cut-number : (W : Way) → W.number W.source.missing ≡ W.number 2
cut-number W = by W.tells
  where
    by : Exact W.source ⊎ Blind W.number W.place → W.number W.source.missing ≡ W.number 2
    by (inl exact) = ap W.number exact.cut
    by (inr blind) = blind.one_number W.source.missing 2

-- The field is there, with this number.
pub record There (W : Way) (us : List ℕ) (at size value : ℕ) : Type 0 where
  pub inside : at + source_units W size ≤ length us
  pub value-is : value ≡ value_at W size us at
  pub small : value < W.source.base ^ source_units W size

pub there_below : (W : Way) (us : List ℕ) (at size : ℕ) → Below W.source.base us → at + source_units W size ≤ length us → There W us at size (value_at W size us at)
there_below W us at size below inside =
    record { inside = inside; value-is = refl; small = field_below W.source.base us at (source_units W size) inside below }

-- What its number stands for.
value_meant : (W : Way) (us : List ℕ) (at : ℕ) (k : Kind) (size x v : ℕ) → K.size k.shape ≡ size → There W us at size x → W.source.meant k.shape x ≡ v → v ≡ W.source.meant k.shape (value_at W (K.size k.shape) us at)
value_meant W us at k size x v sized there means = sym means ∙ ap (W.source.meant k.shape) (rw sized there.value-is)

-- ---- the script

module _ (W : Way) (us m : List ℕ) (at to : ℕ) (going : at < refused) (k : Kind) where
  abbrev place_behind : ℕ
  place_behind = at + source_units W (K.size k.shape)

  -- What comes behind the field, by its value.
  abbrev then-pass : (ℕ → Script (Unit {0})) → ℕ → Passed
  then-pass next v = pass (route W) us (next v) place_behind (to + target_units W (K.size k.shape)) (put to (digits W.target.base (target_units W (K.size k.shape)) v) m)

  field-goes : (next : ℕ → Script (Unit {0})) (v : ℕ) → at + source_units W (K.size k.shape) ≤ length us → v ≡ W.source.meant k.shape (value_at W (K.size k.shape) us at) → Allowed k v
      → behind W us m at to (ask k next) ≡ then-pass next v
  field-goes next v inside is allowed =
      behind_going W us m at to (ask k next) going
      ∙ ap (λ o. onward (route W) at o (then-pass next)) (read_value W.source.base (λ s. source_units W (K.size s)) W.source.meant W.source.missing W.source.meaningless us at k v inside is allowed)

  field_stops : (next : ℕ → Script (Unit {0})) (n : ℕ) → (fixed (codec W.source)).read k (drop at us) ≡ C.refused n (drop at us)
      → behind W us m at to (ask k next) ≡ stopped (W.number n) (W.place at)
  field_stops next n reads = behind_going W us m at to (ask k next) going ∙ ap (λ o. onward (route W) at o (then-pass next)) reads

-- ---- the ways out of a field

module _ {W : Way} {us m : List ℕ} {at to : ℕ} (ready : Ready (length us) at to) where
  -- A refusal here, which is what the field comes to, or one before.
  stopped-asked : (k : Kind) {n : ℕ} {q : Pass} {v : ℕ} → Refused W n at to q → ((next : ℕ → Script (Unit {0})) → at < refused → behind W us m at to (ask k next) ≡ stopped (W.number n) (W.place at))
      → Valued (one k) v W us m m at to q.at q.to
  stopped-asked k {n} {q} {v} is stops = by (ltb at refused) refl
    where
      by : (b : Bool) → ltb at refused ≡ b → Valued (one k) v W us m m at to q.at q.to
      by true e =
          let going = ltb-true at refused e in
          rw (is.now going)
          (record {
            runs = λ next. stops next going ∙ sym (behind-refusal W us m n at (next v));
            ready = refusal_ready W n at (length us) ready.short (ready.inside going);
            same_length = refl;
          })
      by false e = let gone = ltb-false at refused e in rw (is.before gone) (gone_valued ready gone)

  -- The field is not there, or the pass was refused before.
  pub not_there : (k : Kind) {bytes words v : ℕ} {r : Bool} {q : Pass} → W.source.pick bytes words ≡ source_units W (K.size k.shape) → Fits W bytes words us at r → r ≡ false → Refused W 2 at to q
      → Valued (one k) v W us m m at to q.at q.to
  not_there k units fits failed is =
      stopped-asked k is (λ next going.
      let inside = ready.inside going in
      let short = fits.no failed in
      field_stops W us m at to going k next W.source.missing (read_cut_lem W.source.base (λ s. source_units W (K.size s)) W.source.meant W.source.missing W.source.meaningless us at k (omega (arith, units)))
      ∙ ap (λ n. stopped n (W.place at)) (cut-number W))

  module _ (k : Kind) {size x v : ℕ} (sized : K.size k.shape ≡ size) (there : There W us at size x) (means : W.source.meant k.shape x ≡ v) where
    -- It is kept.
    pub good_asked : 0 < size → size ≤ 8 → Allowed k v → {m' : List ℕ} → m' ≡ put to (digits W.target.base (target_units W size) v) m
        → Valued (one k) v W us m m' at to (stepped W size 1 at to).at (stepped W size 1 at to).to
    good_asked least most allowed {m'} memory =
        let inside : at + 1 * source_units W size ≤ length us = omega (arith, there.inside) in
        let going = still_going W size 1 ready inside in
        let after = stepped_ready W size 1 ready inside least most in
        let short = ready.short in
        let once : (n : ℕ) → n ≡ 1 * n = λ n. omega arith in
        record {
          runs = λ next.
              field-goes W us m at to going k next v (rw sized there.inside) (value_meant W us at k size x v sized there means) allowed
              ∙ ap (λ s. pass (route W) us (next v) (at + source_units W s) (to + target_units W s) (put to (digits W.target.base (target_units W s) v) m)) sized
              ∙ ap₂ (λ a b. pass (route W) us (next v) (at + a) (to + b) (put to (digits W.target.base (target_units W size) v) m)) (once (source_units W size)) (once (target_units W size))
              ∙ ap (λ l. pass (route W) us (next v) (at + 1 * source_units W size) (to + 1 * target_units W size) l) (sym memory)
              ∙ sym (behind_going W us m' (at + 1 * source_units W size) (to + 1 * target_units W size) (next v) (omega arith));
          ready = after;
          same_length = ap length memory ∙ length-put to (digits W.target.base (target_units W size) v) m;
        }

    -- It is refused by its fault.
    pub bad-asked : {n w : ℕ} → 0 < n → Judges W k v n → {q : Pass} → Refused W n at to q → Valued (one k) w W us m m at to q.at q.to
    bad-asked {n} {w} positive judges {q} is = stopped-asked k is (λ next going. by next going (fault_of W.source.meaningless k v) refl)
      where
        by : (next : ℕ → Script (Unit {0})) → at < refused → (f : ℕ) → fault_of W.source.meaningless k v ≡ f → behind W us m at to (ask k next) ≡ stopped (W.number n) (W.place at)
        by next going zero e = let s = judges.some positive in absurd (omega arith)
        by next going (suc f) e =
            field_stops W us m at to going k next (suc f)
            (read_fault W.source.base (λ s. source_units W (K.size s)) W.source.meant W.source.missing W.source.meaningless us at k v (rw sized there.inside) (value_meant W us at k size x v sized there means) f e)
            ∙ ap (λ x. stopped (W.number x) (W.place at)) (sym e)
            ∙ ap (λ x. stopped x (W.place at)) (judges.number_is positive)

    -- It is kept or refused by its fault.
    pub field-asked : 0 < size → size ≤ 8 → {n : ℕ} → Judges W k v n → {m' : List ℕ} {r : FieldPass} → Keeps W size v n m m' at to r → Asked k W us m m' at to r
    field-asked least most {n} judges {m'} {r} keeps = by n refl
      where
        by : (x : ℕ) → n ≡ x → Asked k W us m m' at to r
        by zero e = let g = keeps.good e in rw g.1 (good_asked least most (judges.fine e) g.0)
        by (suc x) e = let g = keeps.bad (omega arith) in rw g.0 (bad-asked (omega arith) judges g.1)

-- The field is there, with this value.
pub there_with : {W : Way} (size : ℕ) {bytes words : ℕ} {us : List ℕ} {at : ℕ} {r : Bool} {v : ℕ} → W.source.pick bytes words ≡ source_units W size → Fits W bytes words us at r → r ≡ true
    → (v ≡ value_at W size us at) × (v < W.source.base ^ source_units W size) → There W us at size v
there_with size units fits taken value =
    record { inside = rw (← units) (fits.yes taken); value-is = value.0; small = value.1 }

-- What a step over fields that are there needs.
pub steps_small : {W : Way} (size count : ℕ) {total at to : ℕ} → Ready total at to → at + count * source_units W size ≤ total → 0 < size → size ≤ 8 → Small W size count at to
steps_small {W} size count ready inside least most =
    let small = step_small W size count ready inside least most in
    record { at_small = small.0; to-small = small.1 }

pub there-small : {W : Way} (size : ℕ) {v : ℕ} {us : List ℕ} {at to : ℕ} → Ready (length us) at to → There W us at size v → 0 < size → size ≤ 8 → Small W size 1 at to
there-small size ready there least most = steps_small size 1 ready (omega (arith, there.inside)) least most
