-- What is wrong with a field's number, in any way.
use Rattle.std.specs.Prelude.{◌≡◌, refl, ◌⊎◌, Bool, true, false, cond, ℕ, zero, suc, ◌^◌, ◌<◌, ◌≤◌, ltb}
use Rattle.std.proofs.Common.{sym, ap, ◌∙◌, inl, inr, arith, lt-ltb, le-ltb, ltb-true, ltb-false}
use Rattle.std.specs.Int.{Width, w8, w32}
use mir.Val.{to_z, hbits}
use Rattle.format.specs.Kind.{Kind, Shape, Allowed, is_flag, size, values, flag, byte, char, integer, float, double, string_length, string_char, chars}
use Rattle.format.specs.LiteralLaws.{fault_of}
use Rattle.drawing.specs.Fields as F
use Rattle.drawing.specs.Fields.{unless, in_range}
use Rattle.drawing.specs.FieldLaws.{in_range_lem, in_signed}
use Rattle.drawing.specs.FlagLaws.{full_plain}
use Rattle.ways.specs.Way.{Way, Exact, Blind, source_units}

-- This number tells what is wrong with a value in a field of this kind, 0 for nothing: refused with it, a pass comes to what its script comes to.
pub record Judges (W : Way) (k : Kind) (v n : ℕ) : Type 0 where
  pub fine : n ≡ 0 → Allowed k v
  pub some : 0 < n → 0 < fault_of W.source.meaningless k v
  pub number_is : 0 < n → W.number (fault_of W.source.meaningless k v) ≡ W.number n

-- A shape has no more values than its bytes hold.
pub values_hold : (s : Shape) → values s ≤ 256 ^ size s
values_hold flag = omega arith
values_hold byte = omega arith
values_hold char = omega arith
values_hold integer = omega arith
values_hold float = omega arith
values_hold double = omega arith
values_hold string_length = omega arith
values_hold (string_char last) = omega arith
values_hold (chars n) = omega arith

module _ (k : Kind) (v : ℕ) where
  no_fault : fault_of 5 k v ≡ 0 → Allowed k v
  no_fault e = by (ltb v (values k.shape)) refl
    where
      by : (b : Bool) → ltb v (values k.shape) ≡ b → Allowed k v
      by true h = record { fits = ltb-true v (values k.shape) h; faultless = sym (ap (λ b. cond b (k.fault v) 5) h) ∙ e }
      by false h = let z : ◌≡◌ {A = ℕ} 5 0 = sym (ap (λ b. cond b (k.fault v) 5) h) ∙ e in absurd (omega arith)

  -- A number that has a fault in a file has one in any units.
  some_fault : (x : ℕ) → 0 < x → (v < 256 ^ size k.shape → 0 < fault_of 5 k v) → 0 < fault_of x k v
  some_fault x positive bad = by (ltb v (values k.shape)) refl
    where
      by : (b : Bool) → ltb v (values k.shape) ≡ b → 0 < fault_of x k v
      by true h =
          let fits : v < values k.shape = ltb-true v (values k.shape) h in
          let all = values_hold k.shape in
          let f : 0 < cond (ltb v (values k.shape)) (k.fault v) 5 = bad (omega arith) in
          let g : 0 < k.fault v = rw h at f in
          rw h g
      by false h = rw h positive

  -- The number that a file has for it, or some number where a file's field could not be it.
  pub judged : (W : Way) {n : ℕ} → v < W.source.base ^ source_units W (size k.shape) → (v < 256 ^ size k.shape → n ≡ fault_of 5 k v) → (256 ^ size k.shape ≤ v → 0 < n) → Judges W k v n
  judged W {n} small is over =
      record {
        fine = λ e. by_size e (ltb v (256 ^ size k.shape)) refl;
        some = λ h. some_fault W.source.meaningless W.some (λ fits. let i = is fits in omega arith);
        number_is = λ h. by W.tells;
      }
    where
      by_size : n ≡ 0 → (b : Bool) → ltb v (256 ^ size k.shape) ≡ b → Allowed k v
      by_size e true h = no_fault (sym (is (ltb-true v (256 ^ size k.shape) h)) ∙ e)
      by_size e false h = let o = over (ltb-false v (256 ^ size k.shape) h) in absurd (omega arith)

      by : Exact W.source ⊎ Blind W.number W.place → W.number (fault_of W.source.meaningless k v) ≡ W.number n
      by (inl exact) =
          let holds = exact.holds (size k.shape) in
          let fits : v < 256 ^ size k.shape = omega arith in
          ap (λ x. W.number (fault_of x k v)) exact.meaningless-is ∙ ap W.number (sym (is fits))
      by (inr blind) = blind.one_number (fault_of W.source.meaningless k v) n

  -- A value of its shape, with the kind's own fault.
  pub own_fault : (W : Way) {n : ℕ} → v < values k.shape → v < W.source.base ^ source_units W (size k.shape) → n ≡ k.fault v → Judges W k v n
  own_fault W {n} fits small is =
      let all = values_hold k.shape in
      let same : fault_of 5 k v ≡ k.fault v = ap (λ b. cond b (k.fault v) 5) (lt-ltb v (values k.shape) fits) in
      judged W small (λ h. is ∙ sym same) (λ h. absurd (omega arith))

-- ---- ranges

-- The fault of a value that has to lie in a range.
pub record Between (low high fault v n : ℕ) : Type 0 where
  pub inside : n ≡ 0 → (low ≤ v) × (v ≤ high)
  pub outside : 0 < n → (n ≡ fault) × ((v < low) ⊎ (high < v))

-- A field of so many bytes, no flag, allowed from the one number to the other; outside, in a file, it has this fault.
pub record Ranged (k : Kind) (bytes low high fault : ℕ) : Type 0 where
  pub sized : size k.shape ≡ bytes
  pub plain : is_flag k.shape ≡ false
  pub within : (v : ℕ) → low ≤ v → v ≤ high → Allowed k v
  pub outside : (v : ℕ) → v < 256 ^ bytes → (v < low) ⊎ (high < v) → fault_of 5 k v ≡ fault

pub range_fault : (W : Way) (k : Kind) {bytes low high fault v n : ℕ} → Ranged k bytes low high fault → high < 256 ^ bytes → v < W.source.base ^ source_units W bytes → Between low high fault v n → Judges W k v n
range_fault W k {bytes} {low} {high} {fault} {v} {n} ranged held small between =
    judged k v W (rw ranged.sized small) (λ h. by n refl (rw ranged.sized at h)) (λ h. over n refl (rw ranged.sized at h))
  where
    by : (x : ℕ) → n ≡ x → v < 256 ^ bytes → n ≡ fault_of 5 k v
    by zero e fits =
        let b = between.inside e in
        let a = ranged.within v b.0 b.1 in
        e ∙ sym (ap (λ b. cond b (k.fault v) 5) (lt-ltb v (values k.shape) a.fits) ∙ a.faultless)
    by (suc x) e fits = let b = between.outside (omega arith) in b.0 ∙ sym (ranged.outside v fits b.1)

    over : (x : ℕ) → n ≡ x → 256 ^ bytes ≤ v → 0 < n
    over zero e h = let b = (between.inside e).1 in absurd (omega arith)
    over (suc x) e h = omega arith

out_signed : (w : Width) (low high v : ℕ) → (v < low) ⊎ (high < v) → in_range low high (to_z w v) ≡ false
out_signed w low high v out = by (in_range low high (to_z w v)) refl out
  where
    by : (t : Bool) → in_range low high (to_z w v) ≡ t → (v < low) ⊎ (high < v) → in_range low high (to_z w v) ≡ false
    by true e (inl h) = let r = in_range_lem w low high v e in absurd (omega arith)
    by true e (inr h) = let r = in_range_lem w low high v e in absurd (omega arith)
    by false e out = e

-- A kind of field of this shape, and this signed range.
signed_ranged : (s : Shape) (w : Width) (bytes low high : ℕ) → size s ≡ bytes → values s ≡ 256 ^ bytes → high < 2 ^ hbits w → 2 ^ hbits w ≤ 256 ^ bytes
    → Ranged (record { shape = s; fault = λ v. unless (in_range low high (to_z w v)) 6 }) bytes low high 6
signed_ranged s w bytes low high sized all small holds =
    record {
      sized = sized;
      plain = full_plain s bytes sized all;
      within = λ v least most. record { fits = omega (arith, all); faultless = rw (in_signed w low high v small least most) };
      outside = λ v fits out. ap (λ t. cond t (unless (in_range low high (to_z w v)) 6) 5) (lt-ltb v (values s) (rw all fits)) ∙ ap (λ t. unless t 6) (out_signed w low high v out);
    }

pub byte_ranged : (low high : ℕ) → high < 128 → Ranged (F.byte_in low high) 1 low high 6
byte_ranged low high small = signed_ranged byte w8 1 low high refl refl small (omega arith)

pub integer_ranged : (high : ℕ) → high < 2147483648 → Ranged (F.integer_in 0 high) 4 0 high 6
integer_ranged high small = signed_ranged integer w32 4 0 high refl refl small (omega arith)

-- A shape's own values are a range.
pub any_ranged : (s : Shape) (bytes high fault : ℕ) → size s ≡ bytes → values s ≡ suc high → 256 ^ bytes ≡ suc high → Ranged (F.any s) bytes 0 high fault
any_ranged s bytes high fault sized all bytes-hold =
    record {
      sized = sized;
      plain = full_plain s bytes sized (all ∙ sym bytes-hold);
      within = λ v least most. record { fits = omega (arith, all); faultless = refl };
      outside = λ v small out. absurd (none v small out);
    }
  where
    none : (v : ℕ) → v < 256 ^ bytes → (v < 0) ⊎ (high < v) → ⊥
    none v small (inl h) = omega arith
    none v small (inr h) = omega (arith, bytes-hold)

-- ---- numbers that no field of a file can be

module _ (W : Way) (k : Kind) {v n : ℕ} (small : v < W.source.base ^ source_units W (size k.shape)) where
  pub file_fault : n ≡ fault_of 5 k v → Judges W k v n
  file_fault is =
      judged k v W small (λ h. is) (λ h.
      let all = values_hold k.shape in
      let five : fault_of 5 k v ≡ 5 = ap (λ b. cond b (k.fault v) 5) (le-ltb v (values k.shape) (omega arith)) in
      omega (arith, is, five))

  pub wide_fault : {other : ℕ} → values k.shape ≡ 256 ^ size k.shape → 0 < other → n ≡ cond (ltb v (256 ^ size k.shape)) (k.fault v) other → Judges W k v n
  wide_fault {other} all positive is =
      judged k v W small (λ h. is ∙ ap (λ x. cond x (k.fault v) other) (lt-ltb v (256 ^ size k.shape) h) ∙ sym (ap (λ x. cond x (k.fault v) 5) (lt-ltb v (values k.shape) (rw all h)))) (λ h.
      let o : n ≡ other = is ∙ ap (λ x. cond x (k.fault v) other) (le-ltb v (256 ^ size k.shape) h) in
      omega (arith, o))
