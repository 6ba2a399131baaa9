-- Runs of words packed into bytes, and unpacked from them.
use Rattle.std.specs.Prelude.{◌≡◌, refl, ℕ, ◌+◌, ◌*◌, ◌%◌, ◌^◌, ◌<◌, ◌≤◌, List, [], ◌∷◌, ◌++◌, length, take, drop}
use Rattle.std.proofs.Common.{ap, ap₂, ◌∙◌, arith, append_assoc, take_at, drop_at}
use Rattle.std.proofs.Math.Nat as Nat
use Rattle.format.specs.Digits.{Below, number, digits, all_digits}
use Rattle.format.specs.DigitsLaws.{length_digits, number_digits}
use Rattle.format.specs.Recode.{recoded}

-- All words of a run, each in so many bytes.
pub recoded-packed : (w : ℕ) (vs : List ℕ) → recoded (2 ^ 32) 1 256 w (length vs) vs ≡ all_digits 256 w vs
recoded-packed w [] = refl
recoded-packed w (v ∷ vs) =
    let one : v * (2 ^ 32) ^ 0 + 0 ≡ v = omega arith in
    ap₂ (λ x l. digits 256 w x ++ l) one (recoded-packed w vs)

-- The words that lie in bytes, with more behind them.
pub recoded-unpacked : (w : ℕ) → 256 ^ w ≤ 2 ^ 32 → (vs rest : List ℕ) → Below (256 ^ w) vs → recoded 256 w (2 ^ 32) 1 (length vs) (all_digits 256 w vs ++ rest) ≡ vs
recoded-unpacked w fits [] rest small = refl
recoded-unpacked w fits (v ∷ vs) rest small =
    let field = digits 256 w v in
    let behind = all_digits 256 w vs ++ rest in
    let long : length field ≡ w = length_digits 256 w v in
    let joined : (field ++ all_digits 256 w vs) ++ rest ≡ field ++ behind = append_assoc field (all_digits 256 w vs) rest in
    let this : number 256 (take w ((field ++ all_digits 256 w vs) ++ rest)) ≡ v = ap (λ l. number 256 (take w l)) joined ∙ ap (number 256) (take_at field behind w long) ∙ number_digits 256 w v (omega arith) small.0 in
    let less : v < 2 ^ 32 = omega (arith, small.0) in
    let word : digits (2 ^ 32) 1 v ≡ v ∷ [] = ap (λ d. d % 2 ^ 32 ∷ []) (Nat.div-one v) ∙ ap (λ d. d ∷ []) (Nat.mod-eq_of_lt less) in
    ap₂ (λ x l. x ++ l)
    (ap (digits (2 ^ 32) 1) this ∙ word)
    (ap (recoded 256 w (2 ^ 32) 1 (length vs)) (ap (drop w) joined ∙ drop_at field behind w long) ∙ recoded-unpacked w fits vs rest small.1)
