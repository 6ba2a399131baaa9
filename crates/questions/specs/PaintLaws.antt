-- The paint that stands at a place, by its letter and by the layout.
use Rattle.std.specs.Prelude.{◌≡◌, refl, Bool, true, false, not, ◌&&◌, ℕ, ◌+◌, ◌/◌, ◌%◌, ◌^◌, ◌<◌, ◌≤◌, List, [], ◌∷◌, ◌++◌, map, length, drop, get_or, T, eqb, leb, Float, pos}
use Rattle.std.proofs.Common.{sym, ap₂, subst, ◌∙◌, true≢false, add-zero, arith, length-drop, length-append, get_or-drop}
use Rattle.std.proofs.Math.Path.{ap}
use Prim.Native.Char.{code}
use Rattle.std.specs.Float.{nan, inf, fin, binary32}
use Rattle.std.specs.Float.Ieee.{of_bits, of_int, is_nan, le, lt}
use Rattle.std.specs.Float.Ieee.Bits.{nan_bits_is}
use borrow.Author.Tests.{ne_eqb}
use Rattle.format.specs.Kind.{Allowed}
use Rattle.format.specs.Layout.{Layout, field, either, ◌&◌}
use Rattle.format.specs.Alternative.{Alternative, chosen}
use Rattle.format.specs.FloatRange.{from_zero_to, from_zero_below}
use Rattle.drawing.specs.Fields.{component, hue, integer_in}
use Rattle.drawing.specs.FieldLaws.{unless-zero, and_both}
use Rattle.drawing.specs.Paint as P
use Rattle.drawing.specs.Table.{words_of}
use Rattle.laws.specs.WalkComplete.{one_word}
use Rattle.laws.specs.Standing.{Here, Behind}
use Rattle.laws.specs.StandingLaws.{here-behind, first_word, here-first, here_next}
use Rattle.questions.specs.PaintQuestion.{plain_of, plain_at, components_of, Number, Numbers, PlainHere}

-- ---- a plain paint, by its letter

module _ (ws : List ℕ) (at : ℕ) where
  -- The words behind the letter, as a plain paint of that letter.
  abbrev pub lettered : ℕ → P.Plain
  lettered letter = plain_of letter (get_or ws (at + 1) 0) (get_or ws (at + 2) 0) (get_or ws (at + 3) 0) (get_or ws (at + 4) 0) (get_or ws (at + 5) 0)

  pub plain-lettered : {letter : ℕ} → get_or ws at 0 ≡ letter → plain_at ws at ≡ lettered letter
  unfolding plain_at
  plain-lettered is = ap lettered is

  -- What is asked of a plain paint of this letter.
  pub plain_here : {letter : ℕ} → get_or ws at 0 ≡ letter → PlainHere ws at
      → (at + length (components_of (lettered letter)) < length ws) × Numbers (components_of (lettered letter))
  plain_here is here =
      let same = ap components_of (plain-lettered is) in
      (subst (λ l. at + length l < length ws) same here.inside, subst Numbers same here.numbers)

  module _ (r : get_or ws at 0 ≡ code "R" → ⊥) (k : get_or ws at 0 ≡ code "C" → ⊥) (y : get_or ws at 0 ≡ code "Y" → ⊥) (s : get_or ws at 0 ≡ code "S" → ⊥) where
    pub plain_other : plain_at ws at ≡ P.transparent
    unfolding plain_at
    plain_other = simp (ne_eqb (get_or ws at 0) (code "R") r, ne_eqb (get_or ws at 0) (code "C") k, ne_eqb (get_or ws at 0) (code "Y") y, ne_eqb (get_or ws at 0) (code "S") s)

-- ---- components are numbers, of a word each

nothing_below_nan : (x : Float) → le x nan ≡ false
unfolding le lt
nothing_below_nan nan = refl
nothing_below_nan (inf s) = refl
nothing_below_nan (fin s m e) = refl

number : (bits : ℕ) → le (of_int binary32 (pos 0)) (of_bits binary32 bits) ≡ true → Number bits
unfolding is_nan
number bits above = subst (λ t. T (not t)) (sym (nan_bits_is binary32 bits)) (by (of_bits binary32 bits) above)
  where
    by : (x : Float) → le (of_int binary32 (pos 0)) x ≡ true → T (not (is_nan x))
    by nan e = absurd (true≢false (sym e ∙ nothing_below_nan (of_int binary32 (pos 0))))
    by (inf s) e = tt
    by (fin s m x) e = tt

record Component (bits : ℕ) : Type 0 where
  small : bits < 2 ^ 32
  is_number : Number bits

a_component : {bits : ℕ} → Allowed component bits → Component bits
unfolding from_zero_to
a_component {bits} a = record { small = a.fits; is_number = number bits (and_both _ _ (unless-zero (from_zero_to binary32 1 bits) 9 tt a.faultless)).0 }

a_hue : {bits : ℕ} → Allowed hue bits → Component bits
unfolding from_zero_below
a_hue {bits} a = record { small = a.fits; is_number = number bits (and_both _ _ (unless-zero (from_zero_below binary32 360 bits) 9 tt a.faultless)).0 }

abbrev Components : List ℕ → Type 0
Components [] = Unit {0}
Components (x ∷ xs) = Component x × Components xs

abbrev spelled : List ℕ → List ℕ
spelled [] = []
spelled (x ∷ xs) = x / 1 % 2 ^ 32 ∷ spelled xs

same-words : (xs : List ℕ) → Components xs → spelled xs ≡ xs
same-words [] all = refl
same-words (x ∷ xs) all = ap₂ {C = List ℕ} (λ w ws. w ∷ ws) (one_word x all.0.small) (same-words xs all.1)

all-numbers : (xs : List ℕ) → Components xs → Numbers xs
all-numbers [] all = tt
all-numbers (x ∷ xs) all = (all.0.is_number, all-numbers xs all.1)

-- What stands behind the letter of a good plain paint.
abbrev plain_parts : ℕ → P.Plain → Layout P.Plain
plain_parts v p = chosen P.transparent_case (P.plain_cases v) (P.plain_letter p)

plain-parts : (v : ℕ) (p : P.Plain) → (plain_parts v p).Good p → (words_of (plain_parts v p) p ≡ spelled (components_of p)) × Components (components_of p)
plain-parts v P.transparent good = (by (leb 4 v) refl, tt)
  where
    by : (t : Bool) → leb 4 v ≡ t → words_of (plain_parts v P.transparent) P.transparent ≡ []
    by true e = rw e
    by false e = rw e
plain-parts v (P.rgb r g b a) good =
    let t = good.1 in (refl, (a_component t.0, (a_component t.1.0, (a_component t.1.1.0, (a_component t.1.1.1, tt)))))
plain-parts v (P.cmyk c m y k a) good =
    let t = good.1 in
    (refl, (a_component t.0, (a_component t.1.0, (a_component t.1.1.0, (a_component t.1.1.1.0, (a_component t.1.1.1.1, tt))))))
plain-parts v (P.grey g a) good = by (leb 4 v) refl
  where
    by : (t : Bool) → leb 4 v ≡ t → (words_of (plain_parts v (P.grey g a)) (P.grey g a) ≡ spelled (g ∷ a ∷ [])) × Components (g ∷ a ∷ [])
    by true e = let t = (rw e at good).1 in (rw e, (a_component t.0, (a_component t.1, tt)))
    by false e = absurd (omega (arith, ap P.plain_letter (rw e at good).0))
plain-parts v (P.hsb h s b a) good = by (leb 4 v) refl
  where
    by : (t : Bool) → leb 4 v ≡ t → (words_of (plain_parts v (P.hsb h s b a)) (P.hsb h s b a) ≡ spelled (h ∷ s ∷ b ∷ a ∷ [])) × Components (h ∷ s ∷ b ∷ a ∷ [])
    by true e = let t = (rw e at good).1 in (rw e, (a_hue t.0, (a_component t.1.0, (a_component t.1.1.0, (a_component t.1.1.1, tt)))))
    by false e = absurd (omega (arith, ap P.plain_letter (rw e at good).0))

-- ---- the plain paint that stands here

pub record PlainIs (ws : List ℕ) (at : ℕ) (p : P.Plain) : Type 0 where
  pub is : plain_at ws at ≡ p
  pub here : PlainHere ws at

-- The plain paint at the beginning of a list.
abbrev plain_in : List ℕ → P.Plain
plain_in l = plain_of (get_or l 0 0) (get_or l 1 0) (get_or l 2 0) (get_or l 3 0) (get_or l 4 0) (get_or l 5 0)

plain_in_lem : (p : P.Plain) (rest : List ℕ) → plain_in (P.plain_letter p ∷ (components_of p ++ rest)) ≡ p
plain_in_lem P.transparent rest = refl
plain_in_lem (P.rgb r g b a) rest = refl
plain_in_lem (P.cmyk c m y k a) rest = refl
plain_in_lem (P.grey g a) rest = refl
plain_in_lem (P.hsb h s b a) rest = refl

plain_stands : (v : ℕ) {ws : List ℕ} {at : ℕ} (p : P.Plain) (rest : List ℕ) → at ≤ length ws → (plain_parts v p).Good p
    → drop at ws ≡ P.plain_letter p ∷ (words_of (plain_parts v p) p ++ rest) → PlainIs ws at p
unfolding plain_at
plain_stands v {ws} {at} p rest inside good stands =
    let it = plain-parts v p good in
    let words : drop at ws ≡ P.plain_letter p ∷ (components_of p ++ rest) = stands ∙ ap (λ l. P.plain_letter p ∷ (l ++ rest)) (it.0 ∙ same-words (components_of p) it.1) in
    let there : plain_at ws at ≡ plain_in (drop at ws) = simp (get_or-drop, add-zero) in
    let is : plain_at ws at ≡ p = there ∙ ap plain_in words ∙ plain_in_lem p rest in
    let long = sym (length-drop at ws) ∙ ap length words in
    let more : at + length (components_of p) < length ws = omega (arith, long, length-append (components_of p) rest, inside) in
    record {
      is = is;
      here = record { inside = subst (λ x. at + length (components_of x) < length ws) (sym is) more; numbers = subst (λ x. Numbers (components_of x)) (sym is) (all-numbers (components_of p) it.1) };
    }

pub plain_is : (v : ℕ) {ws : List ℕ} {at : ℕ} {p : P.Plain} → Here (P.plain_paint v) ws at p → PlainIs ws at p
plain_is v {p = p} here =
    plain_stands v p here.rest here.stands.within here.good.1 (here.stands.words_are ∙ ap (λ w. w ∷ (words_of (plain_parts v p) p ++ here.rest)) (one_word (P.plain_letter p) (omega (arith, here.good.0.fits))))

-- ---- paints, by their letters

-- One value is laid out as another.
record Same {A B : Type 0} (L : Layout A) (a : A) (M : Layout B) (b : B) : Type 0 where
  good : L.Good a → M.Good b
  words : words_of L a ≡ words_of M b

-- Alternatives that the tag does not tell.
abbrev NotTold : {B : Type 0} {tag_of : B → ℕ} → ℕ → List (Alternative B tag_of) → Type 0
NotTold c [] = Unit {0}
NotTold c (x ∷ xs) = ((x.on && eqb c x.tag) ≡ false) × NotTold c xs

module _ {B : Type 0} {tag_of : B → ℕ} (first : Alternative B tag_of) (c : ℕ) (b : B) (more : List (Alternative B tag_of)) where
  passed_over : (xs : List (Alternative B tag_of)) → NotTold c xs → Same (chosen first (xs ++ more) c) b (chosen first more c) b
  passed_over [] none = record { good = λ g. g; words = refl }
  passed_over (x ∷ xs) none = by (x.on && eqb c x.tag) none.0 (passed_over xs none.1)
    where
      by : (t : Bool) → t ≡ false → Same (chosen first (xs ++ more) c) b (chosen first more c) b → Same (either t x.layout (chosen first (xs ++ more) c)) b (chosen first more c) b
      by true e same = absurd (true≢false e)
      by false e same = record { good = same.good; words = same.words }

no_gradient : (p : P.Plain) → (P.plain_letter p ≡ code "G" → ⊥) × (P.plain_letter p ≡ code "D" → ⊥)
no_gradient P.transparent = (λ e. omega arith, λ e. omega arith)
no_gradient (P.rgb r g b a) = (λ e. omega arith, λ e. omega arith)
no_gradient (P.cmyk c m y k a) = (λ e. omega arith, λ e. omega arith)
no_gradient (P.grey g a) = (λ e. omega arith, λ e. omega arith)
no_gradient (P.hsb h s b a) = (λ e. omega arith, λ e. omega arith)

off : (t : Bool) {u : Bool} → u ≡ false → (t && u) ≡ false
off true is = is
off false is = refl

-- The cases of gradients come last.
abbrev gradients : ℕ → List (Alternative P.Paint P.paint_letter)
gradients v = drop 4 (P.paint_cases v)

abbrev paint_parts : ℕ → P.Paint → Layout P.Paint
paint_parts v p = chosen (P.as_paint P.transparent_case) (P.paint_cases v) (P.paint_letter p)

-- A plain paint's parts are the same among all paints.
as_plain : (v : ℕ) (p : P.Plain) → Same (paint_parts v (P.plain p)) (P.plain p) (plain_parts v p) p
as_plain v p = cases (P.plain_cases v)
  where
    none : Same (chosen (P.as_paint P.transparent_case) (gradients v) (P.plain_letter p)) (P.plain p) (P.as_paint P.transparent_case).layout (P.plain p)
    none = passed_over (P.as_paint P.transparent_case) (P.plain_letter p) (P.plain p) [] (gradients v) (ne_eqb (P.plain_letter p) (code "G") (no_gradient p).0, (off (leb 3 v) (ne_eqb (P.plain_letter p) (code "D") (no_gradient p).1), tt))

    cases : (xs : List (Alternative P.Plain P.plain_letter)) → Same (chosen (P.as_paint P.transparent_case) (map P.as_paint xs ++ gradients v) (P.plain_letter p)) (P.plain p) (chosen P.transparent_case xs (P.plain_letter p)) p
    cases [] = record { good = λ g. (none.good g).1; words = none.words }
    cases (x ∷ xs) = by (x.on && eqb (P.plain_letter p) x.tag) (cases xs)
      where
        by : (t : Bool) → Same (chosen (P.as_paint P.transparent_case) (map P.as_paint xs ++ gradients v) (P.plain_letter p)) (P.plain p) (chosen P.transparent_case xs (P.plain_letter p)) p
            → Same (either t (P.as_paint x).layout (chosen (P.as_paint P.transparent_case) (map P.as_paint xs ++ gradients v) (P.plain_letter p))) (P.plain p) (either t x.layout (chosen P.transparent_case xs (P.plain_letter p))) p
        by true same = record { good = λ g. g.1; words = refl }
        by false same = record { good = same.good; words = same.words }

abbrev pub gradient : ℕ → ℕ → Layout (P.Plain × (P.Plain × ℕ))
gradient v high = P.plain_paint v & P.plain_paint v & field (integer_in 0 high)

-- A gradient of this sort stands here.
pub record GradientIs (v high : ℕ) (make : P.Plain → P.Plain → ℕ → P.Paint) (ws : List ℕ) (at : ℕ) (p : P.Paint) : Type 0 where
  pub start : P.Plain
  pub end : P.Plain
  pub last : ℕ
  pub is : p ≡ make start end last
  pub here : Here (gradient v high) ws (at + 1) (start, (end, last))

-- Its second paint stands behind the first one, and its integer behind the second.
module _ {v high : ℕ} {make : P.Plain → P.Plain → ℕ → P.Paint} {ws : List ℕ} {at : ℕ} {p : P.Paint} (it : GradientIs v high make ws at p) where
  pub start_is : PlainIs ws (at + 1) it.start
  start_is = plain_is v (here-first (P.plain_paint v) (P.plain_paint v & field (integer_in 0 high)) it.here)

  module _ {second : ℕ} (second_is : Behind (P.plain_paint v) ws (at + 1) second) where
    behind-start : Here (P.plain_paint v & field (integer_in 0 high)) ws second (it.end, it.last)
    behind-start = here_next (P.plain_paint v) (P.plain_paint v & field (integer_in 0 high)) it.here second_is

    pub end_is : PlainIs ws second it.end
    end_is = plain_is v (here-first (P.plain_paint v) (field (integer_in 0 high)) behind-start)

    pub last_is : {last : ℕ} → Behind (P.plain_paint v) ws second last → (last < length ws) × (get_or ws last 0 ≡ it.last)
    last_is is = first_word (here_next (P.plain_paint v) (field (integer_in 0 high)) behind-start is) {xs = []} (ap (λ w. w ∷ []) (one_word it.last it.here.good.1.1.fits))

module _ (v : ℕ) {ws : List ℕ} {at : ℕ} where
  letter_first : {p : P.Paint} → Here (P.paint v) ws at p → (at < length ws) × (get_or ws at 0 ≡ P.paint_letter p)
  letter_first {p} here = first_word here (ap (λ w. w ∷ words_of (paint_parts v p) p) (one_word (P.paint_letter p) (omega (arith, here.good.0.fits))))

  pub paint-inside : {p : P.Paint} → Here (P.paint v) ws at p → at < length ws
  paint-inside here = (letter_first here).0

  pub linear_is : (p : P.Paint) → Here (P.paint v) ws at p → get_or ws at 0 ≡ code "G" → GradientIs v 7 P.linear ws at p
  linear_is (P.plain p) here letter = absurd ((no_gradient p).0 (sym (letter_first here).1 ∙ letter))
  linear_is (P.radial f t n) here letter = absurd (let z : ◌≡◌ {A = ℕ} (code "D") (code "G") = sym (letter_first here).1 ∙ letter in omega arith)
  linear_is (P.linear f t n) here letter =
      let same = passed_over (P.as_paint P.transparent_case) (code "G") (P.linear f t n) (gradients v) (map P.as_paint (P.plain_cases v)) (refl, (refl, (off (leb 4 v) refl, (off (leb 4 v) refl, tt)))) in
      record { start = f; end = t; last = n; is = refl; here = here-behind here (code "G" ∷ []) (gradient v 7) (ap (λ l. code "G" ∷ l) same.words) (same.good here.good.1).1 }

  pub radial_is : (p : P.Paint) → Here (P.paint v) ws at p → get_or ws at 0 ≡ code "D" → GradientIs v 8 P.radial ws at p
  radial_is (P.plain p) here letter = absurd ((no_gradient p).1 (sym (letter_first here).1 ∙ letter))
  radial_is (P.linear f t n) here letter = absurd (let z : ◌≡◌ {A = ℕ} (code "G") (code "D") = sym (letter_first here).1 ∙ letter in omega arith)
  radial_is (P.radial f t n) here letter = by (leb 3 v) refl
    where
      same : Same (paint_parts v (P.radial f t n)) (P.radial f t n) (chosen (P.as_paint P.transparent_case) (gradients v) (code "D")) (P.radial f t n)
      same = passed_over (P.as_paint P.transparent_case) (code "D") (P.radial f t n) (gradients v) (map P.as_paint (P.plain_cases v)) (refl, (refl, (off (leb 4 v) refl, (off (leb 4 v) refl, tt))))

      by : (t' : Bool) → leb 3 v ≡ t' → GradientIs v 8 P.radial ws at (P.radial f t n)
      by true on =
          let last : words_of (chosen (P.as_paint P.transparent_case) (gradients v) (code "D")) (P.radial f t n) ≡ words_of (gradient v 8) (f, (t, n)) = rw on in
          record { start = f; end = t; last = n; is = refl; here = here-behind here (code "D" ∷ []) (gradient v 8) (ap (λ l. code "D" ∷ l) (same.words ∙ last)) (rw on at (same.good here.good.1)).1 }
      by false on = let none = rw on at (same.good here.good.1) in absurd none

  -- Without these letters it is a plain paint.
  pub paint_is_plain : (p : P.Paint) → Here (P.paint v) ws at p → (get_or ws at 0 ≡ code "G" → ⊥) → (get_or ws at 0 ≡ code "D" → ⊥) → (q : P.Plain) × ((p ≡ P.plain q) × PlainIs ws at q)
  paint_is_plain (P.linear f t n) here g d = absurd (g (letter_first here).1)
  paint_is_plain (P.radial f t n) here g d = absurd (d (letter_first here).1)
  paint_is_plain (P.plain p) here g d =
      let same = as_plain v p in (
        p,
        (refl, plain_stands v p here.rest here.stands.within (same.good here.good.1) (here.stands.words_are ∙ ap₂ {C = List ℕ} (λ w l. w ∷ (l ++ here.rest)) (one_word (P.plain_letter p) (omega (arith, here.good.0.fits))) same.words)),
      )
