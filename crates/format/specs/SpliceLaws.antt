-- The laws of storing at a place: one behind the other, one before the other.
use Rattle.std.specs.Prelude.{◌≡◌, ℕ, ◌+◌, ◌-◌, ◌≤◌, List, [], ◌++◌, length, take, drop}
use Rattle.std.proofs.Common.{sym, ap, ◌∙◌, arith, append_assoc, length-append, length-drop, take-append-drop, take-take, take_at, drop_at, drop-drop, length-take-le}
use Rattle.std.proofs.Math.Nat as Nat
use Rattle.std.proofs.lemmas.List.{take-append-le}
use Rattle.format.specs.Pass.{splice}

pub splice_nil : (place : ℕ) (s : List ℕ) → splice place [] s ≡ s
splice_nil place s = ap (λ n. take place s ++ drop n s) (Nat.add-zero place) ∙ take-append-drop place s

pub length-splice : (place : ℕ) (ws s : List ℕ) → place + length ws ≤ length s → length (splice place ws s) ≡ length s
length-splice place ws s h =
    let front : length (take place s) ≡ place = length-take-le place s (omega arith) in
    rw (length-append, length-append, front, length-drop) (omega arith)

-- One store, and another right behind it.
pub splice-behind : (place : ℕ) (a b s : List ℕ) → place + length (a ++ b) ≤ length s → splice (place + length a) b (splice place a s) ≡ splice place (a ++ b) s
splice-behind place a b s h =
    let sum : length (a ++ b) ≡ length a + length b = length-append a b in
    let front : length (take place s) ≡ place = length-take-le place s (omega arith) in
    let seam : length (take place s ++ a) ≡ place + length a = length-append (take place s) a ∙ ap (λ n. n + length a) front in
    let ends : place + length a + length b ≡ place + length (a ++ b) = omega arith in
    let back = drop (place + length a) s in
    let same : splice place a s ≡ (take place s ++ a) ++ back = sym (append_assoc (take place s) a back) in
    let firsts : take (place + length a) (splice place a s) ≡ take place s ++ a = ap (take (place + length a)) same ∙ take_at (take place s ++ a) back (place + length a) seam in
    let rests : drop (place + length a + length b) (splice place a s) ≡ drop (place + length (a ++ b)) s =
    ap (drop (place + length a + length b)) same
    ∙ sym (drop-drop (length b) (place + length a) ((take place s ++ a) ++ back))
    ∙ ap (drop (length b)) (drop_at (take place s ++ a) back (place + length a) seam)
    ∙ drop-drop (length b) (place + length a) s
    ∙ ap (λ n. drop n s) ends in
    ap (λ l. l ++ (b ++ drop (place + length a + length b) (splice place a s))) firsts
    ∙ ap (λ l. (take place s ++ a) ++ (b ++ l)) rests
    ∙ append_assoc (take place s) a (b ++ drop (place + length (a ++ b)) s)
    ∙ ap (λ l. take place s ++ l) (sym (append_assoc a b (drop (place + length (a ++ b)) s)))

-- One store, and another right before it.
pub splice-before : (place : ℕ) (a b s : List ℕ) → place + length (a ++ b) ≤ length s → splice place a (splice (place + length a) b s) ≡ splice place (a ++ b) s
splice-before place a b s h =
    let sum : length (a ++ b) ≡ length a + length b = length-append a b in
    let n = place + length a in
    let front : length (take n s) ≡ n = length-take-le n s (omega arith) in
    let ends : n + length b ≡ place + length (a ++ b) = omega arith in
    let firsts : take place (splice n b s) ≡ take place s =
    take-append-le place (take n s) (b ++ drop (n + length b) s) (omega arith) ∙ take-take place n s (omega arith) in
    let rests : drop n (splice n b s) ≡ b ++ drop (n + length b) s = drop_at (take n s) (b ++ drop (n + length b) s) n front in
    ap (λ l. l ++ (a ++ drop n (splice n b s))) firsts
    ∙ ap (λ l. take place s ++ (a ++ l)) rests
    ∙ ap (λ m. take place s ++ (a ++ (b ++ drop m s))) ends
    ∙ ap (λ l. take place s ++ l) (sym (append_assoc a b (drop (place + length (a ++ b)) s)))
