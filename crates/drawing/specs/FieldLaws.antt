-- What the kinds of field allow, as far as the layouts cite it: a flag has two values, a constant field one, a letter is one of those listed.
use Rattle.std.specs.Prelude.{◌≡◌, refl, Bool, true, false, ◌&&◌, ℕ, zero, suc, ◌<◌, ◌≤◌, ◌+◌, ◌-◌, ◌^◌, T, eqb, leb, ltb, pos, negsuc}
use Rattle.std.proofs.Common.{ltb→lt, eqb-true, leb-true, le-leb, lt-ltb, arith}
use Rattle.std.proofs.lemmas.Bool.{eqb-false}
use Rattle.format.specs.Kind.{Allowed}
use Rattle.std.specs.Int.{Width, w8}
use mir.Val.{to_z, sel, bits, hbits}
use Rattle.drawing.specs.Fields.{unless, or_else, magic, jdr, version_length, flag, flow_flag, byte_in, in_range, char_where, version_chars, version_zero}
use Rattle.drawing.specs.Limits.{last_minor}
use Prim.Native.Char.{code}

pub unless-zero : (t : Bool) (n : ℕ) → T (ltb 0 n) → unless t n ≡ 0 → t ≡ true
unless-zero true n h e = refl
unless-zero false n h e = absurd (omega (arith, ltb→lt 0 n h))

pub or_else_zero : (a b : ℕ) → or_else a b ≡ 0 → (a ≡ 0) × (b ≡ 0)
or_else_zero zero b e = (refl, e)
or_else_zero (suc n) b e = absurd (omega arith)

pub magic-only : (v : ℕ) → Allowed magic v → v ≡ jdr
magic-only v a = eqb-true v jdr (unless-zero (eqb v jdr) 3 tt a.faultless)

pub version-length-only : (v : ℕ) → Allowed version_length v → v ≡ 3
version-length-only v a = eqb-true v 3 (unless-zero (eqb v 3) 4 tt a.faultless)

pub flow_flag-only : (v : ℕ) → Allowed flow_flag v → v ≡ 0
flow_flag-only v a = eqb-true v 0 (unless-zero (eqb v 0) 11 tt a.faultless)

pub flag_below : (v : ℕ) → Allowed flag v → v < 2
flag_below v a = a.fits

pub flag-zero : (v : ℕ) → Allowed flag v → eqb v 1 ≡ false → v ≡ 0
flag-zero v a e = let h = flag_below v a in let n = eqb-false v 1 e in omega arith

pub flag_one : (v : ℕ) → Allowed flag v → eqb v 0 ≡ false → v ≡ 1
flag_one v a e = let h = flag_below v a in let n = eqb-false v 0 e in omega arith

pub char-passes : (allowed : ℕ → Bool) (c : ℕ) → Allowed (char_where allowed) c → allowed c ≡ true
char-passes allowed c a = unless-zero (allowed c) 7 tt a.faultless

pub and_both : (a b : Bool) → (a && b) ≡ true → (a ≡ true) × (b ≡ true)
and_both true b e = (refl, e)
and_both false b e = let z : ◌≡◌ {A = Bool} false true = e in (cc, cc)

-- A signed number in a range that begins at 0 or above is its unsigned one.
pub in_range_lem : (w : Width) (low high v : ℕ) → in_range low high (to_z w v) ≡ true → (low ≤ v) × (v ≤ high)
in_range_lem w low high v e = by (ltb v (2 ^ hbits w)) e
  where
    by : (t : Bool) → in_range low high (sel t (pos v) (negsuc (2 ^ bits w - suc v))) ≡ true → (low ≤ v) × (v ≤ high)
    by true e = let b = and_both (leb low v) (leb v high) e in (leb-true low v b.0, leb-true v high b.1)
    by false e = let z : ◌≡◌ {A = Bool} false true = e in absurd (let y : ◌≡◌ {A = ℕ} 0 1 = cc in omega arith)

-- And a number below the sign is in the range of signed numbers that it is in.
pub in_signed : (w : Width) (low high v : ℕ) → high < 2 ^ hbits w → low ≤ v → v ≤ high → in_range low high (to_z w v) ≡ true
in_signed w low high v small least most =
    let below : v < 2 ^ hbits w = omega arith in
    rw (lt-ltb v (2 ^ hbits w) below, le-leb low v least, le-leb v high most)

pub byte_in_lem : (low high v : ℕ) → Allowed (byte_in low high) v → (low ≤ v) × (v ≤ high)
byte_in_lem low high v a = in_range_lem w8 low high v (unless-zero (in_range low high (to_z w8 v)) 6 tt a.faultless)

pub outer-only : (v : ℕ) → Allowed (char_where (λ c. eqb c (code "G"))) v → v ≡ code "G"
outer-only v a = eqb-true v (code "G") (char-passes (λ c. eqb c (code "G")) v a)

-- The version's chars, taken as the minor number, come back.
pub version-back : (c : ℕ) → Allowed version_chars c → version_zero + (c - version_zero) ≡ c
version-back c a =
    let b = and_both (leb version_zero c) (leb c (version_zero + last_minor)) (unless-zero (leb version_zero c && leb c (version_zero + last_minor)) 4 tt a.faultless) in
    let h : version_zero ≤ c = leb-true version_zero c b.0 in
    omega arith
