-- The test that two lists are the same passes exactly where they are equal.
use Rattle.std.specs.Prelude.{◌≡◌, refl, ◌↔◌, Bool, true, false, ℕ, List, [], ◌∷◌, eqb}
use Rattle.std.proofs.Math.Bool.{and-eq-true_iff}
use Rattle.std.proofs.Common.{eqb-true, eq-eqb}
use Rattle.drawing.specs.String.{equal}

pub equal_refl : (xs : List ℕ) → equal xs xs ≡ true
equal_refl [] = refl
equal_refl (x ∷ xs) = rw (eq-eqb x x refl) (equal_refl xs)

pub equal_true : (xs ys : List ℕ) → equal xs ys ≡ true → xs ≡ ys
equal_true [] [] e = refl
equal_true [] (y ∷ ys) e = let z : ◌≡◌ {A = Bool} false true = e in cc
equal_true (x ∷ xs) [] e = let z : ◌≡◌ {A = Bool} false true = e in cc
equal_true (x ∷ xs) (y ∷ ys) e =
    let b = (and-eq-true_iff (eqb x y) (equal xs ys)).0 e in
    rw (eqb-true x y b.0, equal_true xs ys b.1)

pub equal_iff : (xs ys : List ℕ) → (equal xs ys ≡ true) ↔ (xs ≡ ys)
equal_iff xs ys = (equal_true xs ys, λ e. rw (← e) (equal_refl xs))
