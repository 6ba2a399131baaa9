-- Rows stored word by word.
use Rattle.std.specs.Prelude.{◌≡◌, ℕ, ◌+◌, ◌%◌, ◌^◌, ◌<◌, ◌≤◌, List, [], ◌∷◌, ◌++◌, length, take, drop, set}
use Rattle.std.proofs.Common.{sym, ap, ◌∙◌, arith, add-one, length-append}
use Rattle.std.proofs.Math.Nat as Nat
use Rattle.std.proofs.lemmas.List.{set_split}
use Rattle.format.specs.Digits.{digits}
use Rattle.format.specs.Pass.{splice, put}
use Rattle.format.specs.PassLaws.{put-fits, put-short}
use Rattle.format.specs.SpliceLaws.{splice-behind, length-splice}
use Rattle.drawing.specs.Table.{row}

-- A word is its own digit.
pub word_digit : (v : ℕ) → v < 2 ^ 32 → digits (2 ^ 32) 1 v ≡ v ∷ []
word_digit v small = ap (λ d. d % 2 ^ 32 ∷ []) (Nat.div-one v) ∙ ap (λ d. d ∷ []) (Nat.mod-eq_of_lt small)

-- A word stored behind some that were.
word_stored : (s : List ℕ) (at : ℕ) (ws : List ℕ) (v : ℕ) → at + length (ws ++ v ∷ []) ≤ length s → set (splice at ws s) (at + length ws) v ≡ splice at (ws ++ v ∷ []) s
word_stored s at ws v room =
    let n = at + length ws in
    let sum = length-append ws (v ∷ []) in
    let same = length-splice at ws s (omega (arith, sum)) in
    let inside : n < length (splice at ws s) = omega (arith, sum) in
    set_split (splice at ws s) n v inside
    ∙ ap (λ k. take n (splice at ws s) ++ (v ∷ drop k (splice at ws s))) (sym (add-one n))
    ∙ splice-behind at ws (v ∷ []) s room

pub row-stored : (s : List ℕ) (at kind parent start size : ℕ) → at + 4 ≤ length s
    → set (set (set (set s at kind) (at + 1) parent) (at + 2) start) (at + 3) size ≡ put at (row kind parent start size) s
row-stored s at kind parent start size room =
    let first : set s at kind ≡ splice at (kind ∷ []) s = set_split s at kind (omega arith) ∙ ap (λ k. take at s ++ (kind ∷ drop k s)) (sym (add-one at)) in
    ap (λ l. set (set (set l (at + 1) parent) (at + 2) start) (at + 3) size) first
    ∙ ap (λ l. set (set l (at + 2) start) (at + 3) size) (word_stored s at (kind ∷ []) parent (omega arith))
    ∙ ap (λ l. set l (at + 3) size) (word_stored s at (kind ∷ parent ∷ []) start (omega arith))
    ∙ word_stored s at (kind ∷ parent ∷ start ∷ []) size room
    ∙ sym (put-fits at (row kind parent start size) s room)

pub row-short : (s : List ℕ) (at kind parent start size : ℕ) → length s < at + 4 → s ≡ put at (row kind parent start size) s
row-short s at kind parent start size short = sym (put-short at (row kind parent start size) s short)
