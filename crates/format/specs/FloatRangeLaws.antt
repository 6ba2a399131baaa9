-- A float is in a range from 0 exactly when its bit pattern passes a plain test on numbers (`to_by_bits`, `below_by_bits`), for either format and any bound above 0 that it holds.
-- Why: of two numbers that are not negative, the larger has the larger pattern (`ordered_by_bits`). Assumes nothing.
use Rattle.std.specs.Prelude.{◌≡◌, refl, ℕ, zero, suc, ◌+◌, ◌-◌, ◌*◌, ◌/◌, ◌%◌, ◌^◌, ◌≤◌, ◌<◌, Bool, ◌&&◌, ◌||◌, cond, [], ◌∷◌, map, ℤ, pos, T, leb, ltb, eqb, Float}
use Rattle.std.proofs.Common.{sym, ap, ap₂, ◌∙◌, subst, inl, inr, zero-le, zero-mul, zero-add, eq-or-lt_of_le, le_of_mul-le-mul_right, add-zero, lt_trans, zero-lt-suc, mul-pos, div-mul-le_self, ne_of_lt, le_of_eq, le_of_lt, mul-one, le_of_suc-le-suc, mul-le-mul_right, mul-le-mul_left, mul-lt-mul_of_pos_right, lt_of_not-le, not-le_of_lt, le_trans, lt_of_lt_of_le, lt_of_le_of_lt, div-add-mod', mod-lt, mod-eq_of_lt, div-lt_iff_lt-mul, mul_comm, le-add_right, arith, true≢false, lit<, leb→le, le→leb, ltb→lt, lt→ltb, eqb→eq, pow_pos, pow_mono}
use Rattle.std.proofs.Math.Nat.{le_dest, pow-succ', add-mod_left, mul-add-mod_self_left}
use Rattle.std.proofs.Math.Bool.{true, false, or-true}
use Rattle.std.proofs.Math.Dec.{not_T, leb-zero, leb-suc-zero, leb-suc-suc, eqb-zero-suc, eqb-suc-zero, eqb-suc-suc}
use Rattle.std.proofs.Math.Arith.{lt→nleb, le→nltb}
use Rattle.std.proofs.Math.Pow.{shr_mono}
use Rattle.std.specs.Float.Ieee.{nan, prec, low, up, down, hid, ones, top, odd, of_fields, of_bits, of_int, le, lt}
use Rattle.std.specs.Float.{inf, fin, Format, binary32, binary64}
use Rattle.std.proofs.Math.Facts.{or_yes}
use Rattle.std.specs.Float.Ieee.Bits.{is_true, is_false}
use Rattle.std.specs.Float.Ieee.Fits.{and_l, and_r, eq→eqb, down_pos}
use Rattle.std.specs.Float.Ieee.Exact.{HasValue, odd_sign}
use Rattle.std.specs.Float.Ieee.Order.{transfer}
use Rattle.format.specs.FloatRange.{from_zero_to, from_zero_below}

-- ---- tests on numbers

same_test : (a b : Bool) → (T a → T b) → (T b → T a) → a ≡ b
same_test true true p q = refl
same_test true false p q = absurd (p tt)
same_test false true p q = absurd (q tt)
same_test false false p q = refl

same_order : (a b x y : ℕ) → (a ≤ b → x ≤ y) → (x ≤ y → a ≤ b) → leb a b ≡ leb x y
same_order a b x y p q = same_test (leb a b) (leb x y) (λ t. le→leb x y (p (leb→le a b t))) (λ t. le→leb a b (q (leb→le x y t)))

-- a < b is that b ≤ a fails
same_orders : (a b x y : ℕ) → (a ≤ b → x ≤ y) → (x ≤ y → a ≤ b) → (b ≤ a → y ≤ x) → (y ≤ x → b ≤ a) → (ltb a b ≡ ltb x y) × (leb a b ≡ leb x y)
same_orders a b x y p q r s = (same_order (suc a) b (suc x) y (λ l. lt_of_not-le (λ m. not-le_of_lt l (s m))) (λ l. lt_of_not-le (λ m. not-le_of_lt l (r m))), same_order a b x y p q)

lt_or_eq : (a b : ℕ) → (ltb a b || (eqb a b && true)) ≡ leb a b
lt_or_eq zero zero = refl
lt_or_eq zero (suc b) = rw (leb-suc-suc zero b, leb-zero b) (sym (leb-zero (suc b)))
lt_or_eq (suc a) zero = rw (leb-suc-zero (suc a), eqb-suc-zero a) (sym (leb-suc-zero a))
lt_or_eq (suc a) (suc b) = rw (leb-suc-suc (suc a) b, eqb-suc-suc a b, leb-suc-suc a b) (lt_or_eq a b)

-- ---- two values that are not negative are ordered as their sizes u / c and v / c

module _ (u v c : ℕ) (C : 0 < c) where
  crossed : (x y p q : ℕ) → 0 < p → 0 < q → x * c ≡ u * p → y * c ≡ v * q → (ltb (x * q) (y * p) ≡ ltb u v) × (leb (x * q) (y * p) ≡ leb u v)
  crossed x y p q P Q h k =
      same_orders (x * q) (y * p) u v
      (λ l. le_of_mul-le-mul_right (transfer u v c c x y p q P Q (sym h) (sym k) l) C)
      (λ l. transfer x y p q u v c c C C h k (mul-le-mul_right c l))
      (λ l. le_of_mul-le-mul_right (transfer v u c c y x q p Q P (sym k) (sym h) l) C)
      (λ l. transfer y x q p v u c c C C k h (mul-le-mul_right c l))

  by_sizes : (x y : Float) → HasValue x false u c → HasValue y false v c → (lt x y ≡ ltb u v) × (le x y ≡ leb u v)
  unfolding lt le
  by_sizes nan y p q = absurd p
  by_sizes (inf s) y p q = absurd p
  by_sizes (fin true m e) y p q = absurd (true≢false p.0)
  by_sizes (fin false m e) nan p q = absurd q
  by_sizes (fin false m e) (inf t) p q = absurd q
  by_sizes (fin false m e) (fin true n d) p q = absurd (true≢false q.0)
  by_sizes (fin false m e) (fin false n d) p q =
      let k = crossed (m * up e) (n * up d) (down e) (down d) (down_pos e) (down_pos d) p.1 q.1 in
      (k.0, lt_or_eq (m * up e * down d) (n * up d * down e) ∙ k.1)

-- ---- the size that the exponent's field x and the digits t stand for, in units of the smallest value: it grows with the pattern x * h + t

abbrev size_of : ℕ → ℕ → ℕ → ℕ
size_of h zero t = t
size_of h (suc x) t = (h + t) * 2 ^ x

size_lt : (h x t : ℕ) → t < h → size_of h x t < h * 2 ^ x
size_lt h zero t l = omega arith
size_lt h (suc x) t l = rw (pow-succ' 2 x) (omega (arith, mul-lt-mul_of_pos_right l (pow_pos x)))

size_ge : (h x t : ℕ) → h * 2 ^ x ≤ size_of h (suc x) t
size_ge h x t = omega arith

later : (h x y t v : ℕ) → t < h → x < y → size_of h x t < size_of h y v
later h x zero t v l k = omega arith
later h x (suc y) t v l k = lt_of_lt_of_le (size_lt h x t l) (le_trans (mul-le-mul_left h (pow_mono (le_of_suc-le-suc k))) (size_ge h y v))

along : (h x t v : ℕ) → t < v → size_of h x t < size_of h x v
along h zero t v l = l
along h (suc x) t v l = omega (arith, mul-lt-mul_of_pos_right l (pow_pos x))

-- ---- the patterns with no sign

abbrev size-at : Format → ℕ → ℕ
size-at f b = size_of (hid f) (b / hid f) (b % hid f)

hid_pos : (f : Format) → 0 < hid f
hid_pos f = pow_pos (prec f - 1)

grows : (f : Format) (b c : ℕ) → b < c → size-at f b < size-at f c
grows f b c l = elim (eq-or-lt_of_le (shr_mono (prec f - 1) (le_of_lt l))) [
  | inl e ↦
      let k : c / hid f * hid f + b % hid f ≡ b = rw e at (div-add-mod' b (hid f)) in
      let m : b % hid f < c % hid f = omega (arith, div-add-mod' c (hid f)) in
      rw e (along (hid f) (c / hid f) (b % hid f) (c % hid f) m)
  | inr k ↦ later (hid f) (b / hid f) (c / hid f) (b % hid f) (c % hid f) (mod-lt b (hid_pos f)) k
]

grows_le : (f : Format) (b c : ℕ) → b ≤ c → size-at f b ≤ size-at f c
grows_le f b c l = elim (eq-or-lt_of_le l) [ inl e ↦ le_of_eq (ap (size-at f) e) | inr k ↦ le_of_lt (grows f b c k) ]

grows_back : (f : Format) (b c : ℕ) → size-at f b ≤ size-at f c → b ≤ c
grows_back f b c l = le_of_suc-le-suc (lt_of_not-le (λ (k : c < b). not-le_of_lt (grows f c b k) l))

top_pos : (f : Format) → 0 < top f
top_pos f = mul-pos (hid_pos f) (zero-lt-suc (ones f))

-- a pattern is read as the fields of what is left of it without its sign
read : (f : Format) (s : Bool) (b r : ℕ) → leb (top f) b ≡ s → b % top f ≡ r → b % hid f ≡ r % hid f → of_bits f b ≡ of_fields f s (r / hid f) (r % hid f)
unfolding of_bits
read f s b r p q e = rw (p, q, e)

plain : (f : Format) (b : ℕ) → b < top f → of_bits f b ≡ of_fields f false (b / hid f) (b % hid f)
plain f b l = read f false b b (is_false (leb (top f) b) (lt→nleb (top f) b l)) (mod-eq_of_lt l) refl

signed : (f : Format) (r : ℕ) → r < top f → of_bits f (top f + r) ≡ of_fields f true (r / hid f) (r % hid f)
signed f r l =
    read f true (top f + r) r (is_true (leb (top f) (top f + r)) (le→leb (top f) (top f + r) (le-add_right (top f) r))) (add-mod_left (top f) r ∙ mod-eq_of_lt l)
    (mul-add-mod_self_left (hid f) (suc (ones f)) r)

fields-size : (f : Format) (s : Bool) (x t : ℕ) → x < ones f → HasValue (of_fields f s x t) s (size_of (hid f) x t) (2 ^ low f)
unfolding of_fields
fields-size f s zero t l = subst (λ (u : ℕ). HasValue (odd (prec f) s t 0 (low f)) s u (2 ^ low f)) (mul-one t) (odd_sign (prec f) s t 0 (low f))
fields-size f s (suc x) t l =
    rw (is_false (eqb (suc x) (ones f)) (not_T (eqb (suc x) (ones f)) (λ u. ne_of_lt l (eqb→eq (suc x) (ones f) u)))) (odd_sign (prec f) s (hid f + t) x (low f))

-- it is a number's, or its exponent's field is that of an infinity and the NaNs
finite : (f : Format) (b : ℕ) → b < top f → b / hid f < ones f → HasValue (of_bits f b) false (size-at f b) (2 ^ low f)
finite f b l k = rw (plain f b l) (fields-size f false (b / hid f) (b % hid f) k)

at_ones : (f : Format) (s : Bool) (t x : ℕ) → x ≡ ones f → of_fields f s x t ≡ cond (eqb t 0) (inf s) nan
unfolding of_fields
at_ones f s t zero e = absurd (ne_of_lt (omega arith) e)
at_ones f s t (suc x) e = rw (is_true (eqb (suc x) (ones f)) (eq→eqb e))

-- an infinity or a NaN against a number
over : (a : Bool) (y : Float) (u c : ℕ) → HasValue y false u c → (lt (cond a (inf false) nan) y ≡ false) × (le (cond a (inf false) nan) y ≡ false)
unfolding lt le
over a nan u c h = absurd h
over a (inf s) u c h = absurd h
over true (fin s m e) u c h = (refl, refl)
over false (fin s m e) u c h = (refl, refl)

-- The heart. b may be the pattern of an infinity or a NaN too: those are above every number's, and their comparisons with a number fail.
pub ordered_by_bits : (f : Format) (b c : ℕ) → b < top f → c < ones f * hid f → (lt (of_bits f b) (of_bits f c) ≡ ltb b c) × (le (of_bits f b) (of_bits f c) ≡ leb b c)
ordered_by_bits f b c B C = elim (eq-or-lt_of_le (le_of_suc-le-suc ((div-lt_iff_lt-mul (hid_pos f)).1 (rw (mul_comm (hid f) (suc (ones f))) at B)))) [
  | inl e ↦
      let k = over (eqb (b % hid f) 0) (of_bits f c) (size-at f c) (2 ^ low f) v in
      let l : c < b = lt_of_lt_of_le C (rw e at (div-mul-le_self b (hid f))) in
      rw (plain f b B ∙ at_ones f false (b % hid f) (b / hid f) e, is_false (ltb b c) (le→nltb b c (le_of_lt l)), is_false (leb b c) (lt→nleb b c l)) k
  | inr k ↦
      let s = by_sizes (size-at f b) (size-at f c) (2 ^ low f) (pow_pos (low f)) (of_bits f b) (of_bits f c) (finite f b B k) v in
      let t = same_orders (size-at f b) (size-at f c) b c (grows_back f b c) (grows_le f b c) (grows_back f c b) (grows_le f c b) in
      (s.0 ∙ t.0, s.1 ∙ t.1)
]
  where
    v : HasValue (of_bits f c) false (size-at f c) (2 ^ low f)
    v = finite f c (omega arith) ((div-lt_iff_lt-mul (hid_pos f)).1 C)

-- ---- the patterns with the sign

zero_bits : (f : Format) → of_bits f 0 ≡ fin false 0 (pos 0)
unfolding of_bits
zero_bits binary32 = refl
zero_bits binary64 = refl

minus_zero_bits : (f : Format) → of_bits f (top f) ≡ fin true 0 (pos 0)
unfolding of_bits
minus_zero_bits binary32 = refl
minus_zero_bits binary64 = refl

zero-int : (f : Format) → of_int f (pos 0) ≡ of_bits f 0
unfolding of_int of_bits
zero-int binary32 = refl
zero-int binary64 = refl

-- -0 is below what 0 is below
minus_zero_lem : (y : Float) → lt (fin true 0 (pos 0)) y ≡ lt (fin false 0 (pos 0)) y
unfolding lt
minus_zero_lem nan = refl
minus_zero_lem (inf t) = refl
minus_zero_lem (fin true n d) = rw (zero-mul (down d)) (leb-suc-zero (n * up d * 1))
minus_zero_lem (fin false n d) = simp (zero-mul, zero-add)

-- 0 ≤ -x exactly where x ≤ 0
eq_zero : (a : ℕ) → (eqb 0 a && true) ≡ leb a 0
eq_zero zero = refl
eq_zero (suc a) = rw (eqb-zero-suc a, leb-suc-zero a)

turned : (m : ℕ) (e : ℤ) → le (fin false 0 (pos 0)) (fin true m e) ≡ le (fin false m e) (fin false 0 (pos 0))
unfolding le
turned m e = rw (zero-mul (down e)) (eq_zero (m * up e * 1) ∙ sym (lt_or_eq (m * up e * 1) 0))

turned_odd : (d q k l : ℕ) → le (fin false 0 (pos 0)) (odd d true q k l) ≡ le (odd d false q k l) (fin false 0 (pos 0))
unfolding odd
turned_odd d zero k l = turned 0 (pos 0)
turned_odd d (suc q) k l = turned _ _

turned_fields : (f : Format) (x t : ℕ) → le (fin false 0 (pos 0)) (of_fields f true x t) ≡ le (of_fields f false x t) (fin false 0 (pos 0))
unfolding of_fields le
turned_fields f zero t = turned_odd (prec f) t 0 (low f)
turned_fields f (suc x) t = go (eqb (suc x) (ones f)) (eqb t 0)
  where
    go : (a b : Bool) → le (fin false 0 (pos 0)) (cond a (cond b (inf true) nan) (odd (prec f) true (hid f + t) x (low f))) ≡ le (cond a (cond b (inf false) nan) (odd (prec f) false (hid f + t) x (low f))) (fin false 0 (pos 0))
    go true true = refl
    go true false = refl
    go false b = turned_odd (prec f) (hid f + t) x (low f)

-- so of the patterns with the sign, only that of -0 passes the test at 0
signed_le : (f : Format) (r : ℕ) → r < top f → le (of_bits f 0) (of_bits f (top f + r)) ≡ leb r 0
signed_le f r l =
    ap₂ le (zero_bits f) (signed f r l) ∙ turned_fields f (r / hid f) (r % hid f) ∙ ap₂ le (sym (plain f r l)) (sym (zero_bits f))
    ∙ (ordered_by_bits f r 0 l (mul-pos (omega arith) (hid_pos f))).1

-- ---- the ranges

-- a pattern above that of -0 fails the test at 0
at_most : (f : Format) (b : ℕ) → b < 2 * top f → T (le (of_bits f 0) (of_bits f b)) → b ≤ top f
at_most f b l t =
    le_of_suc-le-suc
    (lt_of_not-le λ (k : top f < b).
    let (r, e) = le_dest (le_of_lt k) in
    let r-lt : r < top f = omega arith in
    let z : T (leb r 0) = rw (← signed_le f r r-lt, e) t in
    not-le_of_lt k (omega (arith, leb→le r 0 z)))

-- p is the test at the range's upper end, and q the test on the patterns
from_zero : (f : Format) (b : ℕ) (p q : Bool) → b < 2 * top f → (b < top f → p ≡ q) → (T q → b < ones f * hid f) → (b ≡ top f → T p)
    → (le (of_int f (pos 0)) (of_bits f b) && p) ≡ (q || eqb b (top f))
from_zero f b p q l same number minus =
    rw (zero-int f)
    (same_test (le (of_bits f 0) (of_bits f b) && p) (q || eqb b (top f))
    (λ t. elim (eq-or-lt_of_le (at_most f b l (and_l (le (of_bits f 0) (of_bits f b)) p t))) [
      | inl e ↦ rw (is_true (eqb b (top f)) (eq→eqb e), or-true q) tt
      | inr k ↦ rw (is_true q (rw (same k) at (and_r (le (of_bits f 0) (of_bits f b)) p t))) tt
    ])
    (λ t. elim (or_yes q (eqb b (top f)) t) [
      | inl v ↦
          let k : b < top f = omega (arith, number v) in
          rw ((ordered_by_bits f 0 b (lt_of_le_of_lt zero-le k) (number v)).1, leb-zero b, same k) v
      | inr u ↦
          let e : b ≡ top f = eqb→eq b (top f) u in
          let z : le (of_bits f 0) (of_bits f b) ≡ true = rw (e, ← add-zero (top f)) (signed_le f 0 (top_pos f)) in
          rw z (minus e)
    ]))

minus_zero_below : (f : Format) (b c : ℕ) → 0 < c → c < ones f * hid f → b ≡ top f → T (lt (of_bits f b) (of_bits f c))
minus_zero_below f b c C N e = rw (e, minus_zero_bits f, minus_zero_lem, ← zero_bits f, (ordered_by_bits f 0 c (top_pos f) N).0) (lt→ltb 0 c C)

-- c is the bit pattern of the bound n, a positive finite number
pub to_by_bits : (f : Format) (n c b : ℕ) → 0 < c → c < ones f * hid f → of_bits f c ≡ of_int f (pos n) → b < 2 * top f → from_zero_to f n b ≡ (leb b c || eqb b (top f))
unfolding from_zero_to le
to_by_bits f n c b C N e l =
    rw (← e)
    (from_zero f b (le (of_bits f b) (of_bits f c)) (leb b c) l (λ k. (ordered_by_bits f b c k N).1) (λ t. lt_of_le_of_lt (leb→le b c t) N)
    (λ m. rw (is_true (lt (of_bits f b) (of_bits f c)) (minus_zero_below f b c C N m)) tt))

pub below_by_bits : (f : Format) (n c b : ℕ) → 0 < c → c < ones f * hid f → of_bits f c ≡ of_int f (pos n) → b < 2 * top f → from_zero_below f n b ≡ (ltb b c || eqb b (top f))
unfolding from_zero_below
below_by_bits f n c b C N e l =
    rw (← e)
    (from_zero f b (lt (of_bits f b) (of_bits f c)) (ltb b c) l (λ k. (ordered_by_bits f b c k N).0) (λ t. lt_trans (ltb→lt b c t) N) (minus_zero_below f b c C N))

-- 0x3f80_0000 is 1, 0x43b4_0000 is 360, and 0x8000_0000 is -0
pub component-by_bits : (b : ℕ) → b < 2 ^ 32 → from_zero_to binary32 1 b ≡ (leb b 0x3f80_0000 || eqb b 0x8000_0000)
unfolding of_bits of_int
component-by_bits b l = to_by_bits binary32 1 0x3f80_0000 b (lit< tt) (lit< tt) refl l

pub hue-by_bits : (b : ℕ) → b < 2 ^ 32 → from_zero_below binary32 360 b ≡ (ltb b 0x43b4_0000 || eqb b 0x8000_0000)
unfolding of_bits of_int
hue-by_bits b l = below_by_bits binary32 360 0x43b4_0000 b (lit< tt) (lit< tt) refl l

-- ---- examples, by computation

-- 0, -0, the smallest number above 0, and 1
in_component : map (from_zero_to binary32 1) (0 ∷ 0x8000_0000 ∷ 0x0000_0001 ∷ 0x3f80_0000 ∷ []) ≡ true ∷ true ∷ true ∷ true ∷ []
unfolding from_zero_to of_bits of_int le
in_component = refl

-- the next number above 1, the two infinities, and -1; then three NaNs
out_of-component : map (from_zero_to binary32 1) (0x3f80_0001 ∷ 0x7f80_0000 ∷ 0xff80_0000 ∷ 0xbf80_0000 ∷ []) ≡ false ∷ false ∷ false ∷ false ∷ []
unfolding from_zero_to of_bits of_int le
out_of-component = refl

no_nan : map (from_zero_to binary32 1) (0x7fc0_0000 ∷ 0xffc0_0000 ∷ 0x7f80_0001 ∷ []) ≡ false ∷ false ∷ false ∷ []
unfolding from_zero_to of_bits of_int le
no_nan = refl

-- -0 and the last number below 360; then 360, the infinity, -1 and a NaN
in_hue : map (from_zero_below binary32 360) (0x8000_0000 ∷ 0x43b3_ffff ∷ []) ≡ true ∷ true ∷ []
unfolding from_zero_below of_bits of_int le lt
in_hue = refl

out_of-hue : map (from_zero_below binary32 360) (0x43b4_0000 ∷ 0x7f80_0000 ∷ 0xbf80_0000 ∷ 0x7fc0_0000 ∷ []) ≡ false ∷ false ∷ false ∷ false ∷ []
unfolding from_zero_below of_bits of_int le lt
out_of-hue = refl
