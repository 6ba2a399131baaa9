-- The laws of rows: their words, and the comparison with the row that one has to be.
use Rattle.std.specs.Prelude.{◌≡◌, refl, Bool, true, false, ◌&&◌, ℕ, suc, ◌+◌, ◌*◌, ◌<◌, ◌≤◌, List, [], ◌∷◌, eqb, length, take, drop, get_or}
use Rattle.std.proofs.Common.{ap, ◌∙◌, arith, drop-cons, ne_eqb}
use Rattle.drawing.specs.String.{equal}
use Rattle.drawing.specs.Table.{row, kind_in, start_in}
use Rattle.rows.specs.Rows.{row_at}

module _ (cs : List ℕ) (n : ℕ) (there : 4 * n + 4 ≤ length cs) where
  row_words : row_at cs n ≡ get_or cs (4 * n) 0 ∷ get_or cs (4 * n + 1) 0 ∷ get_or cs (4 * n + 2) 0 ∷ get_or cs (4 * n + 3) 0 ∷ []
  row_words =
      ap (take 4)
      (drop-cons cs (4 * n) 0 (omega arith)
      ∙ ap (λ l. get_or cs (4 * n) 0 ∷ l) (behind (4 * n) 1 (omega arith) (omega arith)
      ∙ ap (λ l. get_or cs (4 * n + 1) 0 ∷ l) (behind (4 * n + 1) 2 (omega arith) (omega arith)
      ∙ ap (λ l. get_or cs (4 * n + 2) 0 ∷ l) (behind (4 * n + 2) 3 (omega arith) (omega arith)))))
    where
      behind : (i k : ℕ) → suc i ≡ 4 * n + k → 4 * n + k < length cs → drop (suc i) cs ≡ get_or cs (4 * n + k) 0 ∷ drop (suc (4 * n + k)) cs
      behind i k next h = ap (λ j. drop j cs) next ∙ drop-cons cs (4 * n + k) 0 h

  pub kind_of-row : kind_in (row_at cs n) 0 ≡ kind_in cs n
  kind_of-row = ap (λ l. get_or l 0 0) row_words

  pub start-of-row : start_in (row_at cs n) 0 ≡ start_in cs n
  start-of-row = ap (λ l. get_or l 2 0) row_words

  module _ (kind parent start size : ℕ) where
    -- The row is compared word by word.
    pub row-equal : equal (row_at cs n) (row kind parent start size)
        ≡ (eqb (get_or cs (4 * n) 0) kind && (eqb (get_or cs (4 * n + 1) 0) parent && (eqb (get_or cs (4 * n + 2) 0) start && (eqb (get_or cs (4 * n + 3) 0) size && true))))
    row-equal = ap (λ l. equal l (row kind parent start size)) row_words

    -- A row that tells of another place is not the one.
    pub other-start : (start_in cs n ≡ start → ⊥) → equal (row_at cs n) (row kind parent start size) ≡ false
    other-start other =
        row-equal
        ∙ ap (λ t. eqb (get_or cs (4 * n) 0) kind && (eqb (get_or cs (4 * n + 1) 0) parent && (t && (eqb (get_or cs (4 * n + 3) 0) size && true)))) (ne_eqb (start_in cs n) start other)
        ∙ by (eqb (get_or cs (4 * n) 0) kind) (eqb (get_or cs (4 * n + 1) 0) parent)
      where
        by : (t u : Bool) → (t && (u && false)) ≡ false
        by true true = refl
        by true false = refl
        by false u = refl
