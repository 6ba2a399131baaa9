-- The box around points: what one more point comes to, and where the box begins.
use Rattle.std.specs.Prelude.{◌≡◌, Bool, true, false, cond, not, ◌||◌, List, [], ◌∷◌, ◌++◌, T, eqb, Float}
use Rattle.std.proofs.Math.Path.{refl, ap}
use Rattle.std.proofs.Common.{sym, ap₂, subst, ◌∙◌, eq-eqb, ne_eqb}
use Rattle.std.specs.Float.{binary64}
use Rattle.std.specs.Float.Ieee.{nan_bits, lt}
use Rattle.drawing.specs.declared.Extent.{Extent}
use Rattle.drawing.specs.declared.ExtentAnswer.{ExtentAnswer}
use Rattle.drawing.specs.Numbers.{not_a_number}
use Rattle.drawing.specs.Path.{Point}
use Rattle.drawing.specs.Answers.{answer}
use Rattle.drawing.specs.Extent.{coordinate, lesser, greater, box_at, widened, widened_by, any_na_n, no_extent}
use Rattle.drawing.specs.Computed.{extent_value}
use Rattle.extent.specs.Points.{folded, boxed}

-- The answer where some coordinate is not a number.
abbrev pub no_number : ExtentAnswer
no_number = extent_value (no_extent not_a_number)

-- One of its coordinates is not a number.
abbrev pub nan_in : Point → Bool
nan_in p = nan_bits binary64 p.x || nan_bits binary64 p.y

-- Neither of two is a NaN, where a test of both says so.
pub both-numbers : (t s : Bool) → T (not (t || s)) → T (not t) × T (not s)
both-numbers true s is = absurd is
both-numbers false s is = (tt, is)

pub is_number : {t r : Bool} → r ≡ t → r ≡ false → T (not t)
is_number same is = subst (λ t. T (not t)) (sym (sym same ∙ is)) tt

or_or : (t s u : Bool) → (t || (s || u)) ≡ ((t || s) || u)
or_or true s u = refl
or_or false s u = refl

nan_first : (p : Point) (ps : List Point) → any_na_n (p ∷ ps) ≡ (nan_in p || any_na_n ps)
nan_first p ps = or_or (nan_bits binary64 p.x) (nan_bits binary64 p.y) (any_na_n ps)

-- ---- points that widen a box

module _ (b : Extent) where
  pub folded-none : folded b [] ≡ record { number = 0; extent = b }
  unfolding folded
  folded-none = refl

  module _ (p : Point) (ps : List Point) where
    abbrev gone_on : Bool → ExtentAnswer
    gone_on t = cond t no_number (record { number = 0; extent = widened_by (widened b p) ps })

    pub folded_nan : nan_in p ≡ true → folded b (p ∷ ps) ≡ no_number
    unfolding folded
    folded_nan is = ap gone_on (nan_first p ps ∙ ap (λ t. t || any_na_n ps) is)

    pub folded_on : nan_in p ≡ false → folded b (p ∷ ps) ≡ folded (widened b p) ps
    unfolding folded
    folded_on is = ap gone_on (nan_first p ps ∙ ap (λ t. t || any_na_n ps) is)

-- With points behind others, the box of the first is widened by them, unless there was a NaN.
abbrev onward : ExtentAnswer → List Point → ExtentAnswer
onward a qs = cond (eqb a.number 0) (folded a.extent qs) a

folded-append : (b : Extent) (ps qs : List Point) → folded b (ps ++ qs) ≡ onward (folded b ps) qs
folded-append b [] qs = sym (ap (λ a. onward a qs) (folded-none b))
folded-append b (p ∷ ps) qs = by (nan_in p) refl (folded-append (widened b p) ps qs)
  where
    by : (t : Bool) → nan_in p ≡ t → folded (widened b p) (ps ++ qs) ≡ onward (folded (widened b p) ps) qs
        → folded b (p ∷ (ps ++ qs)) ≡ onward (folded b (p ∷ ps)) qs
    by true is others = folded_nan b p (ps ++ qs) is ∙ sym (ap (λ a. onward a qs) (folded_nan b p ps is))
    by false is others = folded_on b p (ps ++ qs) is ∙ others ∙ sym (ap (λ a. onward a qs) (folded_on b p ps is))

-- By the answer for the first points.
module _ (b : Extent) (ps qs : List Point) {a : ExtentAnswer} (is : a ≡ folded b ps) where
  all_is : folded b (ps ++ qs) ≡ onward a qs
  all_is = folded-append b ps qs ∙ ap (λ x. onward x qs) (sym is)

  pub append-on : a.number ≡ 0 → folded b (ps ++ qs) ≡ folded a.extent qs
  append-on good = all_is ∙ ap (λ t. cond t (folded a.extent qs) a) (eq-eqb a.number 0 good)

  pub append-ends : (a.number ≡ 0 → ⊥) → folded b (ps ++ qs) ≡ a
  append-ends bad = all_is ∙ ap (λ t. cond t (folded a.extent qs) a) (ne_eqb a.number 0 bad)

-- ---- the first point

module _ (p : Point) (ps : List Point) where
  abbrev given : Bool → ExtentAnswer
  given t = extent_value (cond t (no_extent not_a_number) (record { answer = answer 0 0 0 0; extent = widened_by (box_at p) ps }))

  pub boxed_nan : nan_in p ≡ true → boxed (p ∷ ps) ≡ no_number
  unfolding boxed
  boxed_nan is = ap given (nan_first p ps ∙ ap (λ t. t || any_na_n ps) is)

  given-same : (t : Bool) → given t ≡ cond t no_number (record { number = 0; extent = widened_by (box_at p) ps })
  given-same true = refl
  given-same false = refl

  pub boxed-on : nan_in p ≡ false → boxed (p ∷ ps) ≡ folded (box_at p) ps
  unfolding boxed folded
  boxed-on is = ap given (nan_first p ps ∙ ap (λ t. t || any_na_n ps) is) ∙ given-same (any_na_n ps)

-- A point does not widen the box that begins at it: whichever of the two is taken, it is the same coordinate.
either_same : (t : Bool) (x : Float) → cond t x x ≡ x
either_same true x = refl
either_same false x = refl

widened_same : (p : Point) → widened (box_at p) p ≡ box_at p
widened_same p =
    let x = coordinate p.x in
    let y = coordinate p.y in
    ap₂ {C = Extent} (λ a b. record { left = a; bottom = b; right = a; top = b }) (either_same (lt x x) x) (either_same (lt y y) y)

pub boxed_twice : (p : Point) (ps : List Point) → boxed (p ∷ p ∷ ps) ≡ boxed (p ∷ ps)
boxed_twice p ps = by (nan_in p) refl
  where
    by : (t : Bool) → nan_in p ≡ t → boxed (p ∷ p ∷ ps) ≡ boxed (p ∷ ps)
    by true is = boxed_nan p (p ∷ ps) is ∙ sym (boxed_nan p ps is)
    by false is = boxed-on p (p ∷ ps) is ∙ folded_on (box_at p) p ps is ∙ ap (λ b. folded b ps) (widened_same p) ∙ sym (boxed-on p ps is)

-- ---- the four sides

-- A box is widened side by side.
module _ (b : Extent) (p : Point) {x y : Float} (x-is : x ≡ coordinate p.x) (y-is : y ≡ coordinate p.y) where
  pub sides_are : {left bottom right top : Float}
      → left ≡ lesser b.left x
      → bottom ≡ lesser b.bottom y
      → right ≡ greater b.right x
      → top ≡ greater b.top y
      → record { left = left; bottom = bottom; right = right; top = top } ≡ widened b p
  sides_are {right = right} {top = top} left_is bottom-is right_is top-is =
      ap₂ {C = Extent} (λ l m. record { left = l; bottom = m; right = right; top = top }) (left_is ∙ ap (lesser b.left) x-is) (bottom-is ∙ ap (lesser b.bottom) y-is)
      ∙ ap₂ {C = Extent} (λ r t. record { left = (widened b p).left; bottom = (widened b p).bottom; right = r; top = t }) (right_is ∙ ap (greater b.right) x-is) (top-is ∙ ap (greater b.top) y-is)
