-- The first elements of an array, by their places.
use Rattle.std.specs.Prelude.{◌≡◌, refl, ℕ, zero, suc, ◌+◌, ◌<◌, ◌≤◌, List, length, get_or, take, drop}
use Rattle.std.proofs.Common.{sym, ap, ◌∙◌, arith, length-take, ext_get_or, get_or-drop, get_or-take}
use Rattle.pieces.specs.Held.{first_of}

pub length-first : (n : ℕ) (l : List ℕ) → length (first_of n l) ≡ n
length-first zero l = refl
length-first (suc n) l = ap suc (length-first n (drop 1 l))

pub first-at : (n : ℕ) (l : List ℕ) (k : ℕ) → k < n → get_or (first_of n l) k 0 ≡ get_or l k 0
first-at zero l k less = absurd (omega arith)
first-at (suc n) l zero less = refl
first-at (suc n) l (suc k) less =
    let next : 1 + k ≡ suc k = omega arith in
    first-at n (drop 1 l) k (omega arith) ∙ get_or-drop 1 l k 0 ∙ ap (λ k. get_or l k 0) next

-- These are the first ones.
pub first_is : (n : ℕ) (l xs : List ℕ) → length xs ≡ n → ((k : ℕ) → k < n → get_or l k 0 ≡ get_or xs k 0) → first_of n l ≡ xs
first_is n l xs long same =
    let sized = length-first n l in
    ext_get_or 0 (first_of n l) xs (sized ∙ sym long) (λ k less. first-at n l k (omega arith) ∙ same k (omega arith))

pub take-first : (n : ℕ) (l : List ℕ) → n ≤ length l → take n l ≡ first_of n l
take-first n l there =
    let long = length-take n l in
    sym (first_is n l (take n l) (omega arith) (λ k less. sym (get_or-take n l k 0 less)))
