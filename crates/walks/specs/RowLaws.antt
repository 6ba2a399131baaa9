-- Rows as the walk meets them, and words by their places.
use Rattle.std.specs.Prelude.{◌≡◌, ℕ, suc, ◌+◌, ◌-◌, ◌*◌, ◌<◌, ◌≤◌, List, length, take, drop, get_or}
use Rattle.std.proofs.Common.{sym, ap, ap₂, ◌∙◌, arith, take-append-drop, length-drop, drop-drop, get_or-drop, length-take-le}
use Rattle.format.specs.FixedReading.{split_at}
use Rattle.format.specs.FixedCodecLaws.{split_at-append, split_at-short}
use Rattle.drawing.specs.TableDrawing.{met, lost, row_from, next_row}
use Rattle.rows.specs.Rows.{row_at}
use Rattle.walks.specs.Walks.{place_at}

module _ (cs ws : List ℕ) (n at : ℕ) where
  pub row_met : 4 * n + 4 ≤ length cs → next_row (place_at cs ws n at) ≡ met (row_at cs n) (place_at cs ws (n + 1) at)
  row_met there =
      let long : length (take 4 (drop (4 * n) cs)) ≡ 4 = length-take-le 4 (drop (4 * n) cs) (rw length-drop (omega arith)) in
      let one : suc n ≡ n + 1 = omega arith in
      let next : 4 * n + 4 ≡ 4 * (n + 1) = omega arith in
      ap (row_from (place_at cs ws n at)) (ap (split_at 4) (sym (take-append-drop 4 (drop (4 * n) cs))) ∙ split_at-append (take 4 (drop (4 * n) cs)) (drop 4 (drop (4 * n) cs)) 4 long)
      ∙ ap₂ (λ k l. met (row_at cs n) (record { row = k; contents = l; at = at; bodies = drop at ws })) one (drop-drop 4 (4 * n) cs ∙ ap (λ k. drop k cs) next)

  pub row-lost : length cs < 4 * n + 4 → next_row (place_at cs ws n at) ≡ lost
  row-lost short = ap (row_from (place_at cs ws n at)) (split_at-short (drop (4 * n) cs) 4 (rw length-drop (omega arith)))

pub word_behind : (ws : List ℕ) (at place : ℕ) → at ≤ place → get_or (drop at ws) (place - at) 0 ≡ get_or ws place 0
word_behind ws at place later =
    let sum : at + (place - at) ≡ place = omega arith in
    get_or-drop at ws (place - at) 0 ∙ ap (λ i. get_or ws i 0) sum
