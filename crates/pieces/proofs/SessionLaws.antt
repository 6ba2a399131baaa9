-- Sessions: however a file is cut, the verdict is the reader's on the joined bytes; and a verdict is repeated.
use Rattle.std.specs.Prelude.{◌≡◌, refl, ◌⊎◌, Bool, true, false, cond, ◌||◌, ℕ, suc, ◌+◌, ◌-◌, ◌/◌, ◌<◌, ◌≤◌, min, List, [], ◌∷◌, ◌++◌, eqb, leb, ltb, length}
use Rattle.std.proofs.Common.{sym, ap, ◌∙◌, subst, inl, inr, arith, append-nil, append_assoc, le-ltb, lt-ltb, ltb-true, ltb-false, le-leb}
use Rattle.std.proofs.lemmas.Bool.{false≢true}
use Rattle.std.proofs.Math.Nat as Nat
use Rattle.format.specs.Digits.{Below}
use Rattle.drawing.specs.declared.Answer.{Answer}
use Rattle.drawing.specs.Limits.{length_limit, depth_limit}
use Rattle.format.specs.Parse.{parse}
use Rattle.drawing.specs.Reading.{bytes, Reading, drawing, refusal, reading, drawing_of}
use Rattle.drawing.specs.Drawing.{Drawing, file, IsFile, Acceptable}
use Rattle.drawing.specs.Refusal.{Refused}
use Rattle.drawing.specs.Fields.{unless, or_else}
use Rattle.drawing.specs.Table.{row_width}
use Rattle.drawing.specs.Answers.{answer, rows_of, word_count, room_fault, stored}
use Rattle.drawing.specs.Computed.{read_result, read_from}
use Rattle.laws.specs.DrawingLaws.{drawing-of-bytes, refusal-of-bytes}
use Rattle.pieces.specs.declared.Session.{Session}
use Rattle.pieces.specs.Verdict.{verdict_from, verdict_of}
use Rattle.pieces.specs.Tally.{plus, tallied}
use Rattle.pieces.specs.TallyLaws.{plus-zero}
use Rattle.pieces.specs.Held.{first_of}
use Rattle.pieces.specs.Parts.{head_on, rest_at, rest}
use Rattle.pieces.specs.Session.{standing, Going, Faulty, Within, Stands, verdict_now, stopped}
use Rattle.pieces.specs.SessionPromises.{no_session, unfit, spend, Opens, Pieces, Verdict, verdict_in, Verdicts}

-- ---- any list of pieces

-- The pieces, joined.
abbrev pub joined : List (List ℕ) → List ℕ
joined [] = []
joined (p ∷ ps) = p ++ joined ps

-- They were given one after another.
abbrev pub Given : Session → List (List ℕ) → Session → Type 0
Given s [] s' = s ≡ s'
Given s (p ∷ ps) s' = (t : Session) × (r : Answer) × Pieces s p t r × Given t ps s'

given_stands : (s s' : Session) (ps : List (List ℕ)) (bs : List ℕ) → Given s ps s' → s.spent ≡ 0 → Stands bs s → Stands (bs ++ joined ps) s'
given_stands s s' [] bs g fresh h = subst (λ t. Stands (bs ++ []) t) g (subst (λ l. Stands l s) (sym (append-nil bs)) h)
given_stands s s' (p ∷ ps) bs g fresh h =
    let call = g.2 in
    subst (λ l. Stands l s') (append_assoc bs p (joined ps)) (given_stands g.0 s' ps (bs ++ p) g.3 (call.fresh fresh) (call.stands fresh bs h))

-- R-6: opened, given any pieces and asked, a session answers what the reader answers for the joined bytes.
pub verdict-of_pieces : {s₁ s₂ s₃ : Session} {r₁ r₃ : Answer} (ps : List (List ℕ)) → Opens s₁ r₁ → Given s₁ ps s₂ → Verdicts s₂ s₃ r₃ → Verdict (joined ps) r₃
verdict-of_pieces {s₁} {s₂} ps o g v = v.stands (joined ps) (given_stands s₁ s₂ ps [] g o.fresh o.stands)

given_spent : (s s' : Session) (ps : List (List ℕ)) → Given s ps s' → (s.spent ≡ 0 → ⊥) → s ≡ s'
given_spent s s' [] g spent = g
given_spent s s' (p ∷ ps) g spent =
    let same : g.0 ≡ s = g.2.spent-same spent in
    sym same ∙ given_spent g.0 s' ps g.3 (λ z. spent (ap (λ (t : Session). t.spent) (sym same) ∙ z))

-- Any verdict spends the session: more pieces change nothing, and the verdict is repeated.
pub verdict_repeated : {s s₁ s₂ s₃ : Session} {r r' : Answer} (ps : List (List ℕ)) → unfit s ≡ false → Verdicts s s₁ r → Given s₁ ps s₂ → Verdicts s₂ s₃ r' → r' ≡ r
verdict_repeated {s} {s₁} {s₂} {s₃} {r} {r'} ps fit v g v' =
    let is-spent : s₁ ≡ spend s = (v.given fit).1 in
    let same : s₁ ≡ s₂ = given_spent s₁ s₂ ps g (λ z. let one : ◌≡◌ {A = ℕ} 1 0 = ap (λ (t : Session). t.spent) (sym is-spent) ∙ z in absurd (omega (arith, one))) in
    let still : s₂ ≡ spend s = sym same ∙ is-spent in
    (v'.given (ap unfit still ∙ fit)).0 ∙ ap verdict_in still ∙ sym (v.given fit).0

-- A session that stands for bytes is fit.
pub stands_fit : {bs : List ℕ} {s : Session} → Stands bs s → unfit s ≡ false
stands_fit {bs} {s} h =
    ap (λ t. t || ltb (suc length_limit) s.bytes) (le-ltb depth_limit s.depth h.shallow) ∙ le-ltb (suc length_limit) s.bytes (by (ltb length_limit (length bs)) refl)
  where
    by : (t : Bool) → ltb length_limit (length bs) ≡ t → s.bytes ≤ suc length_limit
    by true e = let is = h.beyond (ltb-true length_limit (length bs) e) in omega arith
    by false e =
        let short = ltb-false length_limit (length bs) e in
        let is = (h.within short).counted in
        omega arith

-- Opened and given any pieces, it is fit: so 22 is never met, and every piece answers 0.
pub opened_fit : {s₁ : Session} {r₁ : Answer} (s₂ : Session) (ps : List (List ℕ)) → Opens s₁ r₁ → Given s₁ ps s₂ → unfit s₂ ≡ false
opened_fit {s₁} s₂ ps o g = stands_fit (given_stands s₁ s₂ ps [] g o.fresh o.stands)

pub piece_answers : {s₁ s₂ s₃ : Session} {r₁ r : Answer} {p : List ℕ} (ps : List (List ℕ)) → Opens s₁ r₁ → Given s₁ ps s₂ → Pieces s₂ p s₃ r → r ≡ answer 0 0 0 0
piece_answers {s₂ = s₂} ps o g call = call.says ∙ ap (λ t. answer (cond t no_session 0) 0 0 0) (opened_fit s₂ ps o g)

-- So does one behind a verdict, and the verdict stays, whatever pieces are given.
pub spent_answers : {s s₁ s₂ : Session} {r r' : Answer} {p : List ℕ} → unfit s ≡ false → Verdicts s s₁ r → Pieces s₁ p s₂ r' → r' ≡ answer 0 0 0 0
spent_answers {s} fit v call = call.says ∙ ap (λ (t : Session). answer (cond (unfit t) no_session 0) 0 0 0) (v.given fit).1 ∙ ap (λ t. answer (cond t no_session 0) 0 0 0) fit

pub verdict_stays : {s₁ s₂ s₃ s₄ s₅ : Session} {r₁ r r' : Answer} (ps more : List (List ℕ)) → Opens s₁ r₁ → Given s₁ ps s₂ → Verdicts s₂ s₃ r → Given s₃ more s₄ → Verdicts s₄ s₅ r' → r' ≡ r
verdict_stays {s₂ = s₂} ps more o g v g' v' = verdict_repeated more (opened_fit s₂ ps o g) v g' v'

-- Its count of bytes.
pub stands_counts : {bs : List ℕ} {s : Session} → Stands bs s → s.bytes ≡ min (length bs) (suc length_limit)
stands_counts {bs} {s} h = by (ltb length_limit (length bs)) refl
  where
    by : (t : Bool) → ltb length_limit (length bs) ≡ t → s.bytes ≡ min (length bs) (suc length_limit)
    by true e =
        let long = ltb-true length_limit (length bs) e in
        let is = h.beyond long in
        omega arith
    by false e =
        let short = ltb-false length_limit (length bs) e in
        let is = (h.within short).counted in
        omega arith

-- ---- the verdict is the reader's

pub verdict-reads : (bs : List ℕ) → Below 256 bs → {r : Answer} → r ≡ verdict_of bs → Verdict bs r
verdict-reads bs below {r} is =
    record {
      accepts = λ d f. is ∙ ap (λ q. verdict_from q (length bs)) ((drawing-of-bytes bs below d).1 f);
      refuses = λ n o f. is ∙ ap (λ q. verdict_from q (length bs)) ((refusal-of-bytes bs below n o).1 f);
      one-or-other = either (drawing_of bs) refl;
      reads = λ contents bodies rows words. roomy (drawing_of bs) refl contents bodies rows words;
    }
  where
    either : (q : Reading) → drawing_of bs ≡ q → ((d : Drawing) × IsFile bs d) ⊎ ((n : ℕ) × (o : ℕ) × Refused bs n o)
    either (drawing d) e = inl (d, (drawing-of-bytes bs below d).0 e)
    either (refusal n o) e = inr (n, o, (refusal-of-bytes bs below n o).0 e)

    roomy : (q : Reading) → drawing_of bs ≡ q → (contents bodies : List ℕ) → r.rows ≤ length contents / row_width → r.words ≤ length bodies → r ≡ (read_result bs contents bodies).answer
    roomy (refusal n o) e contents bodies rows words =
        is ∙ ap (λ q. verdict_from q (length bs)) e ∙ sym (ap (λ q. (read_from q (length bs) contents bodies).answer) e)
    roomy (drawing d) e contents bodies rows words =
        let so : r ≡ answer 0 (length bs) (rows_of d) (word_count d) = is ∙ ap (λ q. verdict_from q (length bs)) e in
        let rows_is : r.rows ≡ rows_of d = ap (λ (r : Answer). r.rows) so in
        let words-is : r.words ≡ word_count d = ap (λ (r : Answer). r.words) so in
        let none-lacks : room_fault d contents bodies ≡ 0 =
        ap (λ t. or_else (unless t 14) (unless (leb (word_count d) (length bodies)) 15)) (le-leb (rows_of d) (length contents / row_width) (subst (λ n. n ≤ length contents / row_width) rows_is rows))
        ∙ ap (λ t. unless t 15) (le-leb (word_count d) (length bodies) (subst (λ n. n ≤ length bodies) words-is words)) in
        so ∙ sym (ap (λ q. (read_from q (length bs) contents bodies).answer) e ∙ ap (λ n. (stored n d (length bs) contents bodies).answer) none-lacks)

-- ---- opening

-- A session that has been given nothing, whatever its members and its buffer hold.
pub opened_stands : (s : Session) → s.depth ≡ 0 → s.bytes ≡ 0 → s.number ≡ 2 → s.offset ≡ 0 → s.rows ≡ 0 → s.words ≡ 0 → s.stage ≡ 0 → s.held ≡ 0 → Stands [] s
unfolding rest_at
opened_stands s depth bytes_are number offset rows words stage held =
    record {
      units = tt;
      shallow = omega arith;
      within = λ short.
          record {
            counted = bytes_are;
            now = ap (λ n. cond (eqb n 0) (answer 0 s.bytes s.rows (s.words - s.rows - 4)) (answer n s.offset 0 0)) number ∙ ap (λ o. answer 2 o 0 0) offset;
            one_of =
                inl (record {
                  on = omega arith;
                  may-open = λ e. absurd (omega arith);
                  few-held = omega arith;
                  few_words = omega arith;
                  few-rows = omega arith;
                  number-now = omega arith;
                  same = λ more.
                      sym (plus-zero (tallied (head_on file) more))
                      ∙ ap (λ w. plus w (tallied (head_on file) more)) (sym words)
                      ∙ ap (λ n. plus s.words (tallied (rest_at n (standing s)) more)) (sym stage)
                      ∙ ap (λ n. plus s.words (tallied (rest (standing s)) (first_of n s.buffer ++ more))) (sym held);
                });
          };
      beyond = λ long. absurd (omega arith);
    }

-- ---- the verdict of a session that stands for bytes

pub stands_verdict : {bs : List ℕ} {s : Session} → Stands bs s → verdict_in s ≡ verdict_of bs
stands_verdict {bs} {s} h = by (ltb length_limit (length bs)) refl
  where
    by : (t : Bool) → ltb length_limit (length bs) ≡ t → verdict_in s ≡ verdict_of bs
    by true e =
        let long = ltb-true length_limit (length bs) e in
        let is = h.beyond long in
        ap (λ t. cond t (answer 1 length_limit 0 0) (cond (ltb s.number 14) (verdict_now s) (answer 2 0 0 0))) (lt-ltb length_limit s.bytes (omega arith))
        ∙ sym (ap (λ t. verdict_from (cond t (refusal 1 length_limit) (reading (length bs) (parse bytes file bs))) (length bs)) e)
    by false e =
        let short = ltb-false length_limit (length bs) e in
        let w = h.within short in
        let is = w.counted in
        ap (λ t. cond t (answer 1 length_limit 0 0) (cond (ltb s.number 14) (verdict_now s) (answer 2 0 0 0))) (le-ltb length_limit s.bytes (omega arith))
        ∙ ap (λ t. cond t (verdict_now s) (answer 2 0 0 0)) (lt-ltb s.number 14 (few w.one_of))
        ∙ w.now
      where
        few : Going bs s ⊎ Faulty bs s → s.number < 14
        few (inl g) = g.number-now
        few (inr f) = f.some.1

pub verdicts_refused : {s s' : Session} {r : Answer} → unfit s ≡ true → s' ≡ s → r ≡ answer no_session 0 0 0 → Verdicts s s' r
verdicts_refused {s} {s'} {r} bad same is =
    record {
      refused = λ e. (is, same);
      given = λ e. absurd (false≢true (sym e ∙ bad));
      stands = λ bs h. absurd (false≢true (sym (stands_fit h) ∙ bad));
    }

pub verdicts_given : {s s' : Session} {r : Answer} → unfit s ≡ false → r ≡ verdict_in s → s' ≡ spend s → Verdicts s s' r
verdicts_given {s} fit is spends =
    record {
      refused = λ e. absurd (false≢true (sym fit ∙ e));
      given = λ e. (is, spends);
      stands = λ bs h. verdict-reads bs h.units (is ∙ stands_verdict h);
    }
