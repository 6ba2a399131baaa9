-- Flags among the shapes of fields, and what their bytes stand for in a file.
use Rattle.std.specs.Prelude.{◌≡◌, refl, Bool, true, false, cond, ℕ, zero, suc, ◌^◌, ◌<◌}
use Rattle.std.proofs.Common.{sym, ap, ◌∙◌, arith}
use Rattle.format.specs.Kind.{Shape, flag, byte, char, integer, float, double, string_length, string_char, chars, is_flag, size, values}
use Rattle.drawing.specs.Codecs.{truth, meant}

-- A flag is one byte, and has two values.
pub flag-size : (s : Shape) → is_flag s ≡ true → (size s ≡ 1) × (values s ≡ 2)
flag-size flag e = (refl, refl)
flag-size byte e = let z : ◌≡◌ {A = Bool} false true = e in (cc, cc)
flag-size char e = let z : ◌≡◌ {A = Bool} false true = e in (cc, cc)
flag-size integer e = let z : ◌≡◌ {A = Bool} false true = e in (cc, cc)
flag-size float e = let z : ◌≡◌ {A = Bool} false true = e in (cc, cc)
flag-size double e = let z : ◌≡◌ {A = Bool} false true = e in (cc, cc)
flag-size string_length e = let z : ◌≡◌ {A = Bool} false true = e in (cc, cc)
flag-size (string_char last) e = let z : ◌≡◌ {A = Bool} false true = e in (cc, cc)
flag-size (chars n) e = let z : ◌≡◌ {A = Bool} false true = e in (cc, cc)

-- In a file a field's value is among the numbers that stand for it.
pub meant-same : (s : Shape) (v : ℕ) → v < values s → meant s v ≡ v
meant-same s v h = by (is_flag s) refl
  where
    two : (v : ℕ) → v < 2 → truth v ≡ v
    two zero h = refl
    two (suc zero) h = refl
    two (suc (suc n)) h = absurd (omega arith)

    by : (b : Bool) → is_flag s ≡ b → cond b (truth v) v ≡ v
    by true f = two v (rw (flag-size s f).1 at h)
    by false f = refl

-- Every number that a field's bytes can hold stands for one of its values.
pub meant-fits : (s : Shape) (x : ℕ) → x < 256 ^ size s → meant s x < values s
meant-fits flag zero h = omega arith
meant-fits flag (suc n) h = omega arith
meant-fits byte x h = h
meant-fits char x h = h
meant-fits integer x h = h
meant-fits float x h = h
meant-fits double x h = h
meant-fits string_length x h = h
meant-fits (string_char last) x h = h
meant-fits (chars n) x h = h

pub truth-one : (x : ℕ) → (x ≡ 0 → ⊥) → truth x ≡ 1
truth-one zero other = absurd (other refl)
truth-one (suc n) other = refl

-- A number of a field that is no flag stands for itself.
pub meant-plain : (s : Shape) (x : ℕ) → is_flag s ≡ false → meant s x ≡ x
meant-plain s x f = ap (λ b. cond b (truth x) x) f

-- A field of more than a byte is no flag, and neither is one that has all the values of its bytes.
pub long-plain : (s : Shape) (n : ℕ) → size s ≡ n → 1 < n → is_flag s ≡ false
long-plain s n sized more = by (is_flag s) refl
  where
    by : (b : Bool) → is_flag s ≡ b → b ≡ false
    by true f = let one = (flag-size s f).0 in absurd (omega (arith, one, sized))
    by false f = refl

pub full_plain : (s : Shape) (n : ℕ) → size s ≡ n → values s ≡ 256 ^ n → is_flag s ≡ false
full_plain s n sized all = by (is_flag s) refl
  where
    by : (b : Bool) → is_flag s ≡ b → b ≡ false
    by true f =
        let one : n ≡ 1 = sym sized ∙ (flag-size s f).0 in
        let two : 256 ^ n ≡ 2 = sym all ∙ (flag-size s f).1 in
        let z : 256 ^ 1 ≡ 2 = rw one at two in
        absurd (omega arith)
    by false f = refl
