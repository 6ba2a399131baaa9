-- The first elements of an array, whatever is known of its length.
use Rattle.std.specs.Prelude.{ℕ, zero, suc, List, [], ◌∷◌, get_or, drop}

abbrev pub first_of : ℕ → List ℕ → List ℕ
first_of zero l = []
first_of (suc n) l = get_or l 0 0 ∷ first_of n (drop 1 l)
