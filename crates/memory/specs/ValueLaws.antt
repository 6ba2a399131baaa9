-- What a field's digits, stored in memory, come to: put where they fit, and nothing where they do not.
use Rattle.std.specs.Prelude.{◌≡◌, ℕ, ◌+◌, ◌/◌, ◌%◌, ◌^◌, ◌<◌, ◌≤◌, List, [], ◌∷◌, ◌++◌, length, take, drop, set, get_or}
use Rattle.std.proofs.Common.{sym, ap, ap₂, ◌∙◌, arith, length-set}
use Rattle.std.proofs.Math.Nat as Nat
use Rattle.format.specs.Digits.{digits}
use Rattle.format.specs.DigitsLaws.{length_digits}
use Rattle.format.specs.LeafLaws.{put_one}
use Rattle.format.specs.Pass.{splice, put}
use Rattle.format.specs.SpliceLaws.{splice-behind}
use Rattle.format.specs.PassLaws.{put-fits, put-short}

module _ (base to n v : ℕ) (m : List ℕ) where
  pub put-here : to + n ≤ length m → {t : List ℕ} → t ≡ take to m ++ (digits base n v ++ drop (to + n) m) → t ≡ put to (digits base n v) m
  put-here h is =
      let long : length (digits base n v) ≡ n = length_digits base n v in
      is
      ∙ ap (λ k. take to m ++ (digits base n v ++ drop (to + k) m)) (sym long)
      ∙ sym (put-fits to (digits base n v) m (rw long h))

  pub put_nowhere : length m < to + n → m ≡ put to (digits base n v) m
  put_nowhere h = let long : length (digits base n v) ≡ n = length_digits base n v in sym (put-short to (digits base n v) m (rw long h))

-- One word.
pub set-splice : (m : List ℕ) (to v : ℕ) → to < length m → v < 2 ^ 32 → set m to v ≡ splice to (digits (2 ^ 32) 1 v) m
set-splice m to v h small = put_one (2 ^ 32) m to v (omega arith) small

pub put_word : (m : List ℕ) (to v : ℕ) → to < length m → v < 2 ^ 32 → set m to v ≡ put to (digits (2 ^ 32) 1 v) m
put_word m to v h small = put-here (2 ^ 32) to 1 v m (omega arith) (set-splice m to v h small)

-- The two halves of a double, one behind the other.
half : (x : ℕ) → digits (2 ^ 32) 1 (x % 2 ^ 32) ≡ x % 2 ^ 32 ∷ []
half x =
    let one : x % 2 ^ 32 / (2 ^ 32) ^ 0 ≡ x % 2 ^ 32 = Nat.div-one (x % 2 ^ 32) in
    ap (λ d. d % 2 ^ 32 ∷ []) one ∙ ap (λ d. d ∷ []) (Nat.mod-mod x (2 ^ 32))

pub put-halves : (m : List ℕ) (to v h l : ℕ) → to + 1 < length m → h < 2 ^ 32 → l < 2 ^ 32 → h ≡ get_or (digits (2 ^ 32) 2 v) 0 0 → l ≡ get_or (digits (2 ^ 32) 2 v) 1 0
    → set (set m to h) (to + 1) l ≡ put to (digits (2 ^ 32) 2 v) m
put-halves m to v h l room hs ls high low =
    let first : set m to h ≡ splice to (digits (2 ^ 32) 1 h) m = set-splice m to h (omega arith) hs in
    let kept : length (set m to h) ≡ length m = length-set m to h in
    let inside : to + 1 < length (set m to h) = omega arith in
    put-here (2 ^ 32) to 2 v m (omega arith)
    (set-splice (set m to h) (to + 1) l inside ls
    ∙ ap (splice (to + 1) (digits (2 ^ 32) 1 l)) first
    ∙ splice-behind to (digits (2 ^ 32) 1 h) (digits (2 ^ 32) 1 l) m (omega arith)
    ∙ ap (λ ws. splice to ws m) (ap₂ (λ a b. digits (2 ^ 32) 1 a ++ digits (2 ^ 32) 1 b) high low ∙ ap₂ (λ a b. a ++ b) (half (v / (2 ^ 32) ^ 1)) (half (v / (2 ^ 32) ^ 0))))
