-- What the functions over one field promise, whose value tells what follows.
use Rattle.std.specs.Prelude.{◌≡◌, refl, Bool, true, cond, ℕ, zero, suc, ◌+◌, ◌-◌, ◌/◌, ◌^◌, ◌<◌, ◌≤◌, List, eqb, length, drop}
use Rattle.std.proofs.Common.{sym, ap, ◌∙◌, subst, arith, eq-eqb, ne_eqb}
use Rattle.format.specs.Digits.{Below}
use Rattle.format.specs.Kind.{Kind, size, values}
use Rattle.format.specs.Codec.{found}
use Rattle.format.specs.Codec as C
use Rattle.format.specs.Script.{Script, ask}
use Rattle.drawing.specs.Reading.{bytes}
use Rattle.ways.specs.declared.Pass.{Pass}
use Rattle.ways.specs.declared.FieldPass.{FieldPass}
use Rattle.ways.specs.Passes.{refused, Ready, refusal_of, refusal_ready}
use Rattle.from_file.specs.Way.{way}
use Rattle.drawing.specs.Fields as F
use Rattle.drawing.specs.LeafLayout.{is_leaf}
use Rattle.memory.specs.Sizes.{is_field}
use Rattle.reader.specs.OuterLaws.{outer_id}
use Rattle.reader.specs.FieldsAt.{number_at, cut-here, fault_here, value_here}
use Rattle.pieces.specs.Going.{room, goes_is}
use Rattle.pieces.specs.FieldLaws.{field-goes, field_stops}
use Rattle.session_run.specs.declared.cursor.Cursor.{Cursor}
use Rattle.session_run.specs.Steps.{StepsTo}

-- A field of this kind was judged: what follows goes on by its value.
pub record Told (R : Type 0) (k : Kind) (us : List ℕ) (at to : ℕ) (q : FieldPass) : Type 0 where
  pub steps : (next : ℕ → Script R) → StepsTo (ask k next) (next q.value) us at to q.pass.at q.pass.to
  pub fine : q.pass.at < refused → k.fault q.value ≡ 0

-- It was judged, whatever comes behind it: what is left of an object or of a file.
pub record Judged (k : Kind) (us : List ℕ) (at to : ℕ) (q : FieldPass) : Type 0 where
  pub inside : Told (Unit {0}) k us at to q
  pub around : Told ℕ k us at to q

-- The same from a place in a file's bytes.
abbrev pub JudgedHere : Kind → Cursor → FieldPass → Type 0
JudgedHere k here q = Judged k here.src.now here.at here.to q

-- So many bytes can be read as one number.
pub record Sized (n : ℕ) : Type 0 where
  pub some : 0 < n
  pub few : n ≤ 8
  pub known : (n ≡ 6 → ⊥) → is_field n ≡ true

-- Each number of so many bytes is a value of the kind.
pub record Plain (k : Kind) : Type 0 where
  pub all : values k.shape ≡ 256 ^ size k.shape
  pub sized : Sized (size k.shape)

pub double_plain : Plain F.double
double_plain = record { all = refl; sized = record { some = omega arith; few = omega arith; known = λ other. refl } }

pub object_plain : (v : ℕ) (deeper : Bool) → Plain (F.object_id (is_leaf v) deeper)
object_plain v deeper = record { all = refl; sized = record { some = omega arith; few = omega arith; known = λ other. refl } }

pub outer_plain : Plain outer_id
outer_plain = record { all = refl; sized = record { some = omega arith; few = omega arith; known = λ other. refl } }

pub magic_plain : Plain F.magic
magic_plain = record { all = refl; sized = record { some = omega arith; few = omega arith; known = λ other. absurd (other refl) } }

pub length_plain : Plain F.version_length
length_plain = record { all = refl; sized = record { some = omega arith; few = omega arith; known = λ other. refl } }

pub version_plain : Plain F.version_chars
version_plain = record { all = refl; sized = record { some = omega arith; few = omega arith; known = λ other. absurd (other refl) } }

-- A value that is there, behind so many bytes and words, or the fault that it is.
abbrev pub told_of : (at to bytes words value fault : ℕ) → FieldPass
told_of at to bytes words value fault =
    cond (eqb fault 0) (record { value = value; pass = record { at = at + bytes; to = to + words } }) (record { value = 0; pass = refusal_of way fault at })

-- The field is refused.
told-refused : {R : Type 0} {k : Kind} {us : List ℕ} {at to n : ℕ} {q : FieldPass} → size k.shape ≤ room → Ready (length us) at to → at ≤ length us → bytes.read k (drop at us) ≡ C.refused n (drop at us)
    → q ≡ record { value = 0; pass = refusal_of way n at } → Told R k us at to q
told-refused {R} {k} {us} {at} {to} {n} {q} fits ready inside reads is =
    subst (Told R k us at to) (sym is)
    (record {
      steps = λ next.
          record {
            goes = λ on. absurd (omega arith);
            moves = λ on. absurd (omega arith);
            stops = λ off.
                let back : at + refused - refused ≡ at = omega arith in
                (field_stops k next fits (reads ∙ ap (λ a. C.refused n (drop a us)) (sym back)), omega arith);
            ready = refusal_ready way n at (length us) ready.short inside;
          };
      fine = λ on. absurd (omega arith);
    })

module _ {R : Type 0} (k : Kind) (all : values k.shape ≡ 256 ^ size k.shape) (wide : 0 < size k.shape) (fits : size k.shape ≤ 8) {us : List ℕ} (below : Below 256 us) {at to : ℕ} (ready : Ready (length us) at to) (inside : at ≤ length us) where
  pub told-cut : {q : FieldPass} → length us < at + size k.shape → q ≡ record { value = 0; pass = refusal_of way 2 at } → Told R k us at to q
  told-cut short is = told-refused (omega arith) ready inside (cut-here us below k all at inside short) is

  pub told-there : {v n : ℕ} {q : FieldPass} → at + size k.shape ≤ length us → v ≡ number_at (size k.shape) us at → n ≡ k.fault v → q ≡ told_of at to (size k.shape) ((size k.shape + 3) / 4) v n → Told R k us at to q
  told-there {v} {n} {q} there value-is fault-is is = by n refl
    where
      same-fault : k.fault (number_at (size k.shape) us at) ≡ n
      same-fault = ap k.fault (sym value-is) ∙ sym fault-is

      by : (x : ℕ) → n ≡ x → Told R k us at to q
      by zero e =
          subst (Told R k us at to) (sym (is ∙ ap (λ t. cond t (record { value = v; pass = record { at = at + size k.shape; to = to + (size k.shape + 3) / 4 } }) (record { value = 0; pass = refusal_of way n at })) (eq-eqb n 0 e)))
          (record {
            steps = λ next.
                record {
                  goes = λ on.
                      let words : (size k.shape + 3) / 4 ≡ to + (size k.shape + 3) / 4 - to = omega arith in
                      goes_is refl words (field-goes k next (value_here us below k all at there (same-fault ∙ e) ∙ ap (λ v. found v (drop (at + size k.shape) us)) (sym value-is)));
                  moves = λ on. (omega arith, there, omega arith, omega arith);
                  stops = λ off. let short = ready.short in absurd (omega arith);
                  ready =
                      let short = ready.short in
                      let few = ready.few (omega arith) in
                      record { short = short; near = omega arith; inside = λ h. there; few = λ h. omega arith };
                };
            fine = λ on. sym fault-is ∙ e;
          })
      by (suc x) e =
          told-refused (omega arith) ready inside (fault_here us below k all at there n same-fault (omega arith))
          (is ∙ ap (λ t. cond t (record { value = v; pass = record { at = at + size k.shape; to = to + (size k.shape + 3) / 4 } }) (record { value = 0; pass = refusal_of way n at })) (ne_eqb n 0 (λ z. absurd (omega arith))))

-- What `told` returns.
module _ (at to bytes words value fault : ℕ) where
  pub told-bad : {p : Pass} → (fault ≡ 0 → ⊥) → p ≡ refusal_of way fault at → ◌≡◌ {A = FieldPass} (record { value = 0; pass = p }) (told_of at to bytes words value fault)
  told-bad {p} bad is =
      ap {B = FieldPass} (λ p. record { value = 0; pass = p }) is
      ∙ sym (ap (λ t. cond t (record { value = value; pass = record { at = at + bytes; to = to + words } }) (record { value = 0; pass = refusal_of way fault at })) (ne_eqb fault 0 bad))

  pub told_good : {p : Pass} → fault ≡ 0 → p ≡ record { at = at + bytes; to = to + words } → ◌≡◌ {A = FieldPass} (record { value = value; pass = p }) (told_of at to bytes words value fault)
  told_good {p} good is =
      ap {B = FieldPass} (λ p. record { value = value; pass = p }) is
      ∙ sym (ap (λ t. cond t (record { value = value; pass = record { at = at + bytes; to = to + words } }) (record { value = 0; pass = refusal_of way fault at })) (eq-eqb fault 0 good))

-- A field of a kind whose bytes are so many.
module _ {k : Kind} (plain : Plain k) {us : List ℕ} (below : Below 256 us) {at to : ℕ} (ready : Ready (length us) at to) (inside : at ≤ length us) {bytes : ℕ} (is-size : bytes ≡ size k.shape) where
  pub judged-there : {v n : ℕ} {q : FieldPass} → at + bytes ≤ length us → v ≡ number_at bytes us at → n ≡ k.fault v → q ≡ told_of at to bytes ((bytes + 3) / 4) v n → Judged k us at to q
  judged-there {v} {n} {q} there value-is fault-is is =
      by (subst (λ b. at + b ≤ length us) is-size there) (value-is ∙ ap (λ b. number_at b us at) is-size) (is ∙ ap (λ b. told_of at to b ((b + 3) / 4) v n) is-size)
    where
      by : at + size k.shape ≤ length us → v ≡ number_at (size k.shape) us at → q ≡ told_of at to (size k.shape) ((size k.shape + 3) / 4) v n → Judged k us at to q
      by there value-is is =
          record {
            inside = told-there k plain.all plain.sized.some plain.sized.few below ready inside there value-is fault-is is;
            around = told-there k plain.all plain.sized.some plain.sized.few below ready inside there value-is fault-is is;
          }

  pub judged_cut : {p : Pass} → length us < at + bytes → p ≡ refusal_of way 2 at → Judged k us at to (record { value = 0; pass = p })
  judged_cut {p} short is = by (subst (λ b. length us < at + b) is-size short) (ap {B = FieldPass} (λ p. record { value = 0; pass = p }) is)
    where
      by : length us < at + size k.shape → ◌≡◌ {A = FieldPass} (record { value = 0; pass = p }) (record { value = 0; pass = refusal_of way 2 at }) → Judged k us at to (record { value = 0; pass = p })
      by short is =
          record {
            inside = told-cut k plain.all plain.sized.some plain.sized.few below ready inside short is;
            around = told-cut k plain.all plain.sized.some plain.sized.few below ready inside short is;
          }
