-- What the decoders and encoders of single fields rest on. A field of m + n digits is a field of m digits and one of n: in the number that it writes, in a list that is read, and in one that is written.
-- So each width is proved from its parts, by the same law.
use Rattle.std.specs.Prelude.{◌≡◌, List, [], ◌∷◌, ◌++◌, ℕ, zero, suc, ◌+◌, ◌*◌, ◌/◌, ◌%◌, ◌^◌, ◌≤◌, ◌<◌, length, take, drop, get_or, set}
use Rattle.std.proofs.Common.{sym, ap, ◌∙◌, append_assoc, zero-add, suc-add, add_assoc, mul_comm, div-add-mod', div-one, mod-eq_of_lt, add-one, arith, length-append, length-drop, pow-add, take-add, drop-drop, drop-cons, take_at, drop_at, length-take-le}
use Rattle.std.proofs.Math.Nat.{pow-zero, div-div-eq-div-mul}
use Rattle.std.proofs.lemmas.List.{set_split}
use Rattle.std.specs.Int.{Width, w8}
use mir.Val.{Fits, bits}
use Rattle.format.specs.Digits.{Below, number, digits}
use Rattle.format.specs.DigitsLaws.{length_digits, number_below, digits_above}

module _ (base : ℕ) where
  -- Two runs of digits, one after the other.
  pub number_append : (xs ys : List ℕ) → number base (xs ++ ys) ≡ number base xs * base ^ length ys + number base ys
  number_append [] ys = omega arith
  number_append (d ∷ ds) ys =
      rw (number_append ds ys, length-append ds ys, pow-add base (length ds) (length ys)) (omega arith)

  pub below_take : (n : ℕ) (s : List ℕ) → Below base s → Below base (take n s)
  below_take zero s h = tt
  below_take (suc n) [] h = tt
  below_take (suc n) (d ∷ ds) h = (h.0, below_take n ds h.1)

  pub below_drop : (n : ℕ) (s : List ℕ) → Below base s → Below base (drop n s)
  below_drop zero s h = h
  below_drop (suc n) [] h = tt
  below_drop (suc n) (d ∷ ds) h = below_drop n ds h.1

-- Elements of a slice are below the power of their width, as the slice's rule says of each.
pub known_below : (w : Width) (s : List ℕ) → ((i : ℕ) → Fits w (get_or s i 0)) → Below (2 ^ bits w) s
known_below w [] known = tt
known_below w (d ∷ ds) known = ((known 0).fits, known_below w ds (λ i. known (suc i)))

-- ---- reading: the field of n digits at a place

field-length : (s : List ℕ) (place n : ℕ) → place + n ≤ length s → length (take n (drop place s)) ≡ n
field-length s place n h = length-take-le n (drop place s) (rw length-drop (omega arith))

module _ (base : ℕ) (s : List ℕ) (place : ℕ) where
  pub field_below : (n : ℕ) → place + n ≤ length s → Below base s → number base (take n (drop place s)) < base ^ n
  field_below n h b =
      rw (field-length s place n h) at (number_below base (take n (drop place s)) (below_take base n (drop place s) (below_drop base place s b)))

  -- One digit is the element.
  pub field-one : place + 1 ≤ length s → number base (take 1 (drop place s)) ≡ get_or s place 0
  field-one h = let inside : place < length s = omega arith in rw (drop-cons s place 0 inside, pow-zero) (omega arith)

  -- m digits, and then n.
  pub field-add : (m n : ℕ) → place + (m + n) ≤ length s
      → number base (take (m + n) (drop place s)) ≡ number base (take m (drop place s)) * base ^ n + number base (take n (drop (place + m) s))
  field-add m n h =
      let inside : place + m + n ≤ length s = omega arith in
      rw (take-add m n (drop place s), drop-drop m place s, number_append, field-length s (place + m) n inside)

-- A field of k parts, each of n digits, put together a part at a time: after each the number so far, and that it fits.
abbrev pub Parts : ℕ → List ℕ → ℕ → ℕ → ℕ → Type 0
Parts base s place n zero = Unit {0}
Parts base s place n (suc zero) = Unit {0}
Parts base s place n (suc (suc k)) =
    Parts base s place n (suc k)
    × (number base (take (suc k * n + n) (drop place s)) ≡ number base (take (suc k * n) (drop place s)) * base ^ n + number base (take n (drop (place + suc k * n) s)))
    × (number base (take (suc k * n + n) (drop place s)) < base ^ (suc k * n + n))

-- So it is of bytes, where the slice's rule says that each is one.
pub byte_parts : (s : List ℕ) (place n k : ℕ) → ((i : ℕ) → Fits w8 (get_or s i 0)) → place + k * n ≤ length s → Parts 256 s place n k
byte_parts s place n zero known h = tt
byte_parts s place n (suc zero) known h = tt
byte_parts s place n (suc (suc k)) known h =
    let inside : place + (suc k * n + n) ≤ length s = omega arith in
    let before : place + suc k * n ≤ length s = omega arith in (
      byte_parts s place n (suc k) known before,
      field-add 256 s place (suc k * n) n inside,
      field_below 256 s place (suc k * n + n) inside (known_below w8 s known),
    )

-- ---- writing: the last n digits of a number stored at a place

module _ (base : ℕ) (pos : zero < base) where
  pub digits-add : (m n v : ℕ) → digits base (m + n) v ≡ digits base m (v / base ^ n) ++ digits base n (v % base ^ n)
  digits-add zero n v =
      rw zero-add (ap (digits base n) (sym (div-add-mod' v (base ^ n))) ∙ digits_above base n (v / base ^ n) (v % base ^ n) pos)
  digits-add (suc m) n v =
      rw (suc-add, div-div-eq-div-mul, mul_comm (base ^ n) (base ^ m), ← pow-add base m n, digits-add m n v)

-- A list with the last n digits of v at a place.
abbrev pub put : ℕ → List ℕ → ℕ → ℕ → ℕ → List ℕ
put base s place n v = take place s ++ (digits base n v ++ drop (place + n) s)

module _ (base : ℕ) (s : List ℕ) (place : ℕ) where
  -- One digit is one store.
  pub put_one : (v : ℕ) → place + 1 ≤ length s → v < base → set s place v ≡ put base s place 1 v
  put_one v h small =
      let inside : place < length s = omega arith in
      rw (set_split s place v inside, pow-zero, div-one, mod-eq_of_lt small, add-one)

  -- The first m digits, and then the other n.
  pub put-add : zero < base → (m n v : ℕ) {a b : ℕ} {t u : List ℕ} → place + (m + n) ≤ length s → a ≡ v / base ^ n → b ≡ v % base ^ n
      → t ≡ put base s place m a → u ≡ put base t (place + m) n b → u ≡ put base s place (m + n) v
  put-add pos m n v {a} {b} h ea eb et eu =
      let front = take place s ++ digits base m a in
      let back = drop (place + m) s in
      let inside : place ≤ length s = omega arith in
      let seam : length front ≡ place + m = rw (length-append, length-take-le place s inside, length_digits) in
      rw (
        eu,
        et,
        ← append_assoc (take place s) (digits base m a) back,
        take_at front back (place + m) seam,
        ← drop-drop n (place + m) (front ++ back),
        drop_at front back (place + m) seam,
        drop-drop n (place + m) s,
        add_assoc,
        digits-add base pos m n v,
        ea,
        eb,
      )
      (simp append_assoc)
