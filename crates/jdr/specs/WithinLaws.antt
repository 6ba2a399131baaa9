-- The table of a file that `read` accepts lies within the lent runs.
use Rattle.std.specs.Prelude.{◌≡◌, ℕ, List, length, get_or}
use Rattle.std.proofs.Common.{sym, ap, subst, ◌∙◌, Fits, arith}
use Rattle.std.specs.Int.{w8}
use Rattle.format.specs.Digits.{Below}
use Rattle.format.specs.LeafLaws.{known_below}
use Rattle.drawing.specs.declared.Answer.{Answer}
use Rattle.drawing.specs.Answers.{ReadResult}
use Rattle.drawing.specs.Computed.{read_result}
use Rattle.promises.specs.Promises.{Reads}
use Rattle.laws.specs.AnswerLaws.{Accepted, read_accepts, read_gives}
use Rattle.jdr.specs.Within.{Within}

accepted-within : (file contents bodies : List ℕ) → Below 256 file → Accepted file contents bodies → Within (read_result file contents bodies).answer (length contents) (length bodies)
accepted-within file contents bodies b a =
    let h = a.rows_fit in
    subst (λ (r : ReadResult). Within r.answer (length contents) (length bodies)) (sym (read_gives file contents bodies b a))
    (record { some-row = omega arith; some_word = omega arith; rows_fit = omega arith; words-fit = a.words-fit })

-- For a caller's proof: from the slice's rule of the file, what `read` promises, and the test of its number.
pub read_within : {file contents bodies contents' bodies' : List ℕ} {a : Answer} → ((i : ℕ) → Fits w8 (get_or file i 0)) → Reads file contents bodies a contents' bodies' → a.number ≡ 0 → Within a (length contents) (length bodies)
read_within {file} {contents} {bodies} known r e =
    let b = known_below w8 file known in
    let answer-is = ap (λ (r : ReadResult). r.answer) r.says in
    let a = (read_accepts file contents bodies b).0 (sym (ap (λ (a : Answer). a.number) answer-is) ∙ e) in
    subst (λ (a : Answer). Within a (length contents) (length bodies)) (sym answer-is) (accepted-within file contents bodies b a)
