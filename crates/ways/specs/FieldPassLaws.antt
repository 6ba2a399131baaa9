-- One field, as a function passes it: asked whether it is there, taken, judged, and kept or refused; or cut. And what the kinds of field are judged by.
use Rattle.std.specs.Prelude.{◌≡◌, refl, ◌⊎◌, Bool, true, false, cond, not, ◌&&◌, ◌||◌, ℕ, zero, suc, ◌+◌, ◌-◌, ◌^◌, ◌<◌, ◌≤◌, List, [], ◌∷◌, eqb, leb, ltb, length, pos, negsuc}
use Rattle.std.proofs.Common.{sym, ap, ◌∙◌, subst, inl, inr, arith, lt-ltb, le-leb, eq-eqb, ne_eqb, leb-true, ltb-true, ltb-false}
use Rattle.std.proofs.Math.Path.{fun_ext}
use Rattle.std.specs.Int.Signed.{le_z}
use Rattle.std.specs.Int.{w32}
use mir.Val.{to_z, sel, bits, hbits}
use Rattle.std.proofs.lemmas.Bool.{lt-leb}
use Rattle.format.specs.Kind.{Kind, Shape, is_flag, values}
use Rattle.format.specs.Digits.{Below}
use Rattle.format.specs.Kind as Kinds
use Rattle.format.specs.Script.{Script, ask}
use Rattle.format.specs.Format.{Format, script}
use Rattle.format.specs.Alternative.{Alternative, among, chosen}
use Rattle.drawing.specs.Fields as F
use Rattle.drawing.specs.Fields.{unless, char_where, one_of_chars}
use Rattle.drawing.specs.FieldLaws.{and_both}
use Rattle.drawing.specs.FlagLaws.{full_plain}
use Rattle.drawing.specs.Choices.{by_char}
use Rattle.ways.specs.declared.Pass.{Pass}
use Rattle.ways.specs.declared.FieldPass.{FieldPass}
use Rattle.ways.specs.Way.{Way, source_units, value_at}
use Rattle.ways.specs.Passes.{refused, behind, Ready, behind_gone}
use Rattle.ways.specs.Carries.{Laid, Asked}
use Rattle.ways.specs.Faults.{Judges, Between, Ranged, judged, values_hold}
use Rattle.ways.specs.Steps.{Fits, Small, Refused, Keeps}
use Rattle.ways.specs.StepLaws.{There, there_below, there_with, there-small, field-asked, not_there}

-- A refusal, here or before, is one.
pub is_refused : {W : Way} {n at to : ℕ} {q : Pass} → Refused W n at to q → refused ≤ q.at
is_refused {W} {n} {at} {to} {q} is = by (ltb at refused) refl
  where
    by : (b : Bool) → ltb at refused ≡ b → refused ≤ q.at
    by true e = let here : q.at ≡ W.place at + refused = ap (λ (q : Pass). q.at) (is.now (ltb-true at refused e)) in omega (arith, here)
    by false e = let gone = ltb-false at refused e in let here : q.at ≡ at = ap (λ (q : Pass). q.at) (is.before gone) in omega (arith, here)

-- A layout whose first field is not there.
pub cut-laid : {A : Type 0} {P : A → Type 0} {f : Format A P} {W : Way} {us m : List ℕ} {at to : ℕ} → Ready (length us) at to → {k : Kind} {next : Script (Unit {0}) → ℕ → Script (Unit {0})} → ((K : Script (Unit {0})) → script f (λ a. K) ≡ ask k (next K))
    → {bytes words : ℕ} {r : Bool} {q : Pass} → W.source.pick bytes words ≡ source_units W (Kinds.size k.shape) → Fits W bytes words us at r → r ≡ false → Refused W 2 at to q → Laid f W us m m at to q.at q.to
cut-laid {W = W} {us} {m} {at} {to} ready {k} {next} first {q = q} units fits failed is =
    let valued = not_there {m = m} ready k {v = 0} units fits failed is in
    record {
      carried =
          record {
            runs = λ K. ap (behind W us m at to) (first K) ∙ valued.runs (next K) ∙ behind_gone W us m m q.at q.to (next K 0) K (is_refused is);
            ready = valued.ready;
            same_length = refl;
          };
    }

-- A choice whose letter is not there.
pub cut-by-char : {B : Type 0} {letter_of : B → ℕ} (one : Alternative B letter_of) (more : List (Alternative B letter_of)) {W : Way} {us m : List ℕ} {at to : ℕ} {r : Bool} {q : Pass} → Ready (length us) at to → Fits W 2 1 us at r → r ≡ false → Refused W 2 at to q
    → Laid (by_char letter_of one more).format W us m m at to q.at q.to
cut-by-char one more ready fits failed is =
    cut-laid ready {k = char_where (among one more)} {next = λ K c. script (chosen one more c).format (λ b. K)} (λ K. refl) refl fits failed is

-- ---- a field that is there

-- A field of a kind that is there, with its value and its fault.
pub record Seen (W : Way) (k : Kind) (us : List ℕ) (at to v n : ℕ) : Type 0 where
  pub sized : (0 < Kinds.size k.shape) × (Kinds.size k.shape ≤ 8)
  pub ready : Ready (length us) at to
  pub number : ℕ
  pub there : There W us at (Kinds.size k.shape) number
  pub means : W.source.meant k.shape number ≡ v
  pub judges : Judges W k v n

pub seen : {W : Way} (k : Kind) {us : List ℕ} {at to bytes words v n : ℕ} {r : Bool} → (not (is_flag k.shape) && (leb 1 (Kinds.size k.shape) && leb (Kinds.size k.shape) 8)) ≡ true → W.source.pick bytes words ≡ source_units W (Kinds.size k.shape) → Ready (length us) at to → Fits W bytes words us at r → r ≡ true
    → (v ≡ value_at W (Kinds.size k.shape) us at) × (v < W.source.base ^ source_units W (Kinds.size k.shape)) → Judges W k v n → Seen W k us at to v n
seen {W} k {v = v} sized units ready fits taken got judges =
    let tests = and_both (not (is_flag k.shape)) (leb 1 (Kinds.size k.shape) && leb (Kinds.size k.shape) 8) sized in
    let sizes = and_both (leb 1 (Kinds.size k.shape)) (leb (Kinds.size k.shape) 8) tests.1 in
    record {
      sized = (leb-true 1 (Kinds.size k.shape) sizes.0, leb-true (Kinds.size k.shape) 8 sizes.1);
      ready = ready;
      number = v;
      there = there_with (Kinds.size k.shape) units fits taken got;
      means = W.source.plain k.shape v (no_flag (is_flag k.shape) tests.0);
      judges = judges;
    }
  where
    no_flag : (b : Bool) → not b ≡ true → b ≡ false
    no_flag true e = sym e
    no_flag false e = refl

-- A flag that is there, by what its number stands for.
pub seen_flag : {W : Way} (fault : ℕ → ℕ) {us : List ℕ} {at to bytes words v n : ℕ} {r : Bool} → Below W.source.base us → W.source.pick bytes words ≡ source_units W 1 → Ready (length us) at to → Fits W bytes words us at r → r ≡ true
    → v ≡ W.source.meant Kinds.flag (value_at W 1 us at) → Judges W (record { shape = Kinds.flag; fault = fault }) v n → Seen W (record { shape = Kinds.flag; fault = fault }) us at to v n
seen_flag {W} fault {us} {at} below units ready fits taken is judges =
    record {
      sized = (omega arith, omega arith);
      ready = ready;
      number = value_at W 1 us at;
      there = there_below W us at 1 below (rw (← units) (fits.yes taken));
      means = sym is;
      judges = judges;
    }

module _ {W : Way} {k : Kind} {us : List ℕ} {at to v n : ℕ} (seen : Seen W k us at to v n) where
  -- What keeping it needs, beside whatever else is asked there.
  pub seen_fits : {other : Bool} → other ≡ true → (other ≡ true) × (Kinds.size k.shape ≤ 8) × Small W (Kinds.size k.shape) 1 at to × (n ≡ 0 → v < 256 ^ Kinds.size k.shape)
  seen_fits asked =
      let holds = values_hold k.shape in
      (asked, seen.sized.1, there-small (Kinds.size k.shape) seen.ready seen.there seen.sized.0 seen.sized.1, λ e. let fits = (seen.judges.fine e).fits in omega arith)

  pub seen_asked : {m m' : List ℕ} {r : FieldPass} → Keeps W (Kinds.size k.shape) v n m m' at to r → Asked k W us m m' at to r
  seen_asked keeps = field-asked seen.ready k refl seen.there seen.means seen.sized.0 seen.sized.1 seen.judges keeps

-- ---- what fields are judged by

-- A value in a range, or 0 for one that is not.
pub value_within : {low high fault v n value : ℕ} → Between low high fault v n → value ≤ v → (0 < n → value ≡ 0) → value ≤ high
value_within {high = high} {v = v} {n} {value} between less none = by n refl
  where
    by : (x : ℕ) → n ≡ x → value ≤ high
    by zero e = let b = between.inside e in omega (arith, b.1)
    by (suc x) e = let z = none (omega arith) in omega arith

-- The highest signed number of four bytes.
abbrev last_integer : ℕ
last_integer = 2_147_483_647

reaches : (least v : ℕ) → least ≤ v → v ≤ last_integer → le_z (pos least) (to_z w32 v) ≡ true
reaches least v low high = let small : v < 2 ^ hbits w32 = omega arith in rw (lt-ltb v (2 ^ hbits w32) small, le-leb least v low)

falls_short : (least v : ℕ) → (v < least) ⊎ (last_integer < v) → le_z (pos least) (to_z w32 v) ≡ false
falls_short least v out = by (ltb v (2 ^ hbits w32)) refl out
  where
    by : (t : Bool) → ltb v (2 ^ hbits w32) ≡ t → (v < least) ⊎ (last_integer < v) → le_z (pos least) (sel t (pos v) (negsuc (2 ^ bits w32 - suc v))) ≡ false
    by true e (inl h) = lt-leb least v h
    by true e (inr h) = let small = ltb-true v (2 ^ hbits w32) e in absurd (omega arith)
    by false e out = refl

-- A signed number of four bytes that is no less than the least is in a range.
pub reach_ranged : (s : Shape) (least fault : ℕ) → Kinds.size s ≡ 4 → values s ≡ 256 ^ 4 → Ranged (record { shape = s; fault = λ v. unless (le_z (pos least) (to_z w32 v)) fault }) 4 least last_integer fault
reach_ranged s least fault sized all =
    record {
      sized = sized;
      plain = full_plain s 4 sized all;
      within = λ v low high. record { fits = omega (arith, all); faultless = ap (λ b. unless b fault) (reaches least v low high) };
      outside = λ v small out.
          ap (λ t. cond t (unless (le_z (pos least) (to_z w32 v)) fault) 5) (lt-ltb v (values s) (rw all small)) ∙ ap (λ t. unless t fault) (falls_short least v out);
    }

-- The one number that a coordinate may be is a range.
pub joined_ranged : (bits : ℕ) → bits < 256 ^ 8 → Ranged (F.joined bits) 8 bits bits 12
joined_ranged bits fits =
    record {
      sized = refl;
      plain = refl;
      within = λ v low high. let same : v ≡ bits = omega arith in record { fits = omega arith; faultless = ap (λ b. unless b 12) (eq-eqb v bits same) };
      outside = λ v small out.
          ap (λ t. cond t (unless (eqb v bits) 12) 5) (lt-ltb v (values Kinds.double) small) ∙ ap (λ t. unless t 12) (ne_eqb v bits (other v out));
    }
  where
    other : (v : ℕ) → (v < bits) ⊎ (bits < v) → v ≡ bits → ⊥
    other v (inl h) e = omega arith
    other v (inr h) e = omega arith

-- A flag that has this fault where it is true, 0 for none.
abbrev pub flag_kind : ℕ → Kind
flag_kind fault = record { shape = Kinds.flag; fault = λ v. unless (eqb v 0) fault }

-- Any flag is one that has none.
pub any_flag : {W : Way} {us m m' : List ℕ} {at to : ℕ} {r : FieldPass} → Asked (flag_kind 0) W us m m' at to r → Asked F.flag W us m m' at to r
any_flag {W} {us} {m} {m'} {at} {to} {r} asked =
    subst (λ f. Asked (record { shape = Kinds.flag; fault = f }) W us m m' at to r) (fun_ext (λ v. none (eqb v 0))) asked
  where
    none : (t : Bool) → unless t 0 ≡ 0
    none true = refl
    none false = refl

-- A component of a paint, or a hue.
abbrev pub shade_kind : Bool → Kind
shade_kind hue = record { shape = Kinds.float; fault = cond hue (F.hue).fault (F.component).fault }

-- One of three chars.
abbrev pub is_one_of : (a b c letter : ℕ) → Bool
is_one_of a b c letter = eqb letter a || (eqb letter b || eqb letter c)

-- A char was passed that may be one of three.
pub record OneOf (W : Way) (a b c : ℕ) (us m m' : List ℕ) (at to : ℕ) (r : FieldPass) : Type 0 where
  pub asks : (test : ℕ → Bool) → ((letter : ℕ) → test letter ≡ is_one_of a b c letter) → Asked (char_where test) W us m m' at to r

-- What is no char is none of the three.
pub letter_judges : (W : Way) (test : ℕ → Bool) {a b c v n : ℕ} → (a < 256 ^ 2) × (b < 256 ^ 2) × (c < 256 ^ 2) → ((letter : ℕ) → test letter ≡ is_one_of a b c letter) → v < W.source.base ^ source_units W 2 → n ≡ unless (is_one_of a b c v) 7 → Judges W (char_where test) v n
letter_judges W test {a} {b} {c} {v} {n} chars same small is =
    judged (char_where test) v W small (λ fits. is ∙ ap (λ b. unless b 7) (sym (same v)) ∙ sym (ap (λ t. cond t (unless (test v) 7) 5) (lt-ltb v (256 ^ 2) fits)))
    (λ over.
    let none : n ≡ 7 = is ∙ rw (ne_eqb v a (λ e. omega (arith, chars.0)), ne_eqb v b (λ e. omega (arith, chars.1)), ne_eqb v c (λ e. omega (arith, chars.2))) in
    omega arith)

-- Two may be told as three.
pub two-of : (a b letter : ℕ) → one_of_chars (a ∷ b ∷ []) letter ≡ is_one_of a b b letter
two-of a b letter = by (eqb letter a) (eqb letter b)
  where
    by : (x y : Bool) → (x || (y || false)) ≡ (x || (y || y))
    by true y = refl
    by false true = refl
    by false false = refl
