-- What is answered by the room that is lent for a drawing's table: too few rows, too few words, or the table is stored.
use Rattle.std.specs.Prelude.{◌≡◌, ℕ, ◌/◌, ◌<◌, ◌≤◌, true, false, List, ◌++◌, leb, length, drop}
use Rattle.std.proofs.Common.{ap, ap₂, subst, sym, ◌∙◌, le-leb}
use Rattle.std.proofs.Math.Nat as Nat
use Rattle.std.proofs.lemmas.Bool.{lt-leb}
use Rattle.format.specs.Pass.{splice}
use Rattle.drawing.specs.Fields.{unless, or_else}
use Rattle.drawing.specs.Drawing.{Drawing}
use Rattle.drawing.specs.Table.{contents_of, bodies_of}
use Rattle.drawing.specs.declared.Answer.{Answer}
use Rattle.laws.specs.AnswerLaws.{room_fits, stored-zero}
use Rattle.drawing.specs.Answers.{answer, rows_of, word_count, overwrite, ReadResult, room_fault, stored}

-- What is stored at the beginning overwrites it.
pub splice-first : (ws s : List ℕ) → splice 0 ws s ≡ overwrite ws s
splice-first ws s = ap (λ n. ws ++ drop n s) (Nat.zero-add (length ws))

-- A drawing's length, rows and words, as the code has them.
module _ (d : Drawing) (total : ℕ) (cs bs : List ℕ) {at rows words : ℕ} (at-is : at ≡ total) (rows_are : rows ≡ rows_of d) (words_are : words ≡ word_count d) where
  same_answer : (n : ℕ) → answer n at rows words ≡ answer n total (rows_of d) (word_count d)
  same_answer n =
      ap (λ a. answer n a rows words) at-is ∙ ap₂ (λ r w. answer n total r w) rows_are words_are

  by-room : (f : ℕ) → or_else (unless (leb (rows_of d) (length cs / 4)) 14) (unless (leb (word_count d) (length bs)) 15) ≡ f → stored f d total cs bs ≡ stored (room_fault d cs bs) d total cs bs
  by-room f e = ap (λ n. stored n d total cs bs) (sym e)

  pub lacks_rows : {a : Answer} → length cs / 4 < rows → a ≡ answer 14 at rows words → record { answer = a; contents = cs; bodies = bs } ≡ stored (room_fault d cs bs) d total cs bs
  lacks_rows lack is =
      let lacks : leb (rows_of d) (length cs / 4) ≡ false = lt-leb (rows_of d) (length cs / 4) (subst (λ r. length cs / 4 < r) rows_are lack) in
      ap {B = ReadResult} (λ a. record { answer = a; contents = cs; bodies = bs }) (is ∙ same_answer 14)
      ∙ by-room 14 (ap (λ t. or_else (unless t 14) (unless (leb (word_count d) (length bs)) 15)) lacks)

  module _ (rows_fit : rows ≤ length cs / 4) where
    enough_rows : leb (rows_of d) (length cs / 4) ≡ true
    enough_rows = le-leb (rows_of d) (length cs / 4) (subst (λ r. r ≤ length cs / 4) rows_are rows_fit)

    pub lacks_words : {a : Answer} → length bs < words → a ≡ answer 15 at rows words → record { answer = a; contents = cs; bodies = bs } ≡ stored (room_fault d cs bs) d total cs bs
    lacks_words lack is =
        let lacks = lt-leb (word_count d) (length bs) (subst (λ w. length bs < w) words_are lack) in
        ap {B = ReadResult} (λ a. record { answer = a; contents = cs; bodies = bs }) (is ∙ same_answer 15)
        ∙ by-room 15 (ap₂ (λ t u. or_else (unless t 14) (unless u 15)) enough_rows lacks)

    pub has_room : {cs' bs' : List ℕ} {a : Answer} → words ≤ length bs → a ≡ answer 0 at rows words → cs' ≡ overwrite (contents_of d) cs → bs' ≡ overwrite (bodies_of d) bs
        → record { answer = a; contents = cs'; bodies = bs' } ≡ stored (room_fault d cs bs) d total cs bs
    has_room {cs'} {bs'} words-fit is rows-stored words-stored =
        let enough-words = le-leb (word_count d) (length bs) (subst (λ w. w ≤ length bs) words_are words-fit) in
        ap {B = ReadResult} (λ a. record { answer = a; contents = cs'; bodies = bs' }) (is ∙ same_answer 0)
        ∙ ap₂ {C = ReadResult} (λ c b. record { answer = answer 0 total (rows_of d) (word_count d); contents = c; bodies = b }) rows-stored words-stored
        ∙ by-room 0 (ap₂ (λ t u. or_else (unless t 14) (unless u 15)) enough_rows enough-words)

-- A number of 0 says that the table was stored.
pub record Stored (d : Drawing) (total : ℕ) (cs bs : List ℕ) (a : Answer) (cs' bs' : List ℕ) : Type 0 where
  pub rows_fit : rows_of d ≤ length cs / 4
  pub words-fit : word_count d ≤ length bs
  pub answer-is : a ≡ answer 0 total (rows_of d) (word_count d)
  pub contents-are : cs' ≡ overwrite (contents_of d) cs
  pub bodies-are : bs' ≡ overwrite (bodies_of d) bs

pub table_stored : {d : Drawing} {total : ℕ} {cs bs cs' bs' : List ℕ} {a : Answer} → record { answer = a; contents = cs'; bodies = bs' } ≡ stored (room_fault d cs bs) d total cs bs → a.number ≡ 0 → Stored d total cs bs a cs' bs'
table_stored {d} {total} {cs} {bs} {cs'} {bs'} {a} is on =
    let zero_is : room_fault d cs bs ≡ 0 = stored-zero (room_fault d cs bs) d total cs bs (sym (ap (λ (r : ReadResult). r.answer.number) is) ∙ on) in
    let fits = room_fits d cs bs zero_is in
    let all : ◌≡◌ {A = ReadResult} (record { answer = a; contents = cs'; bodies = bs' }) (stored 0 d total cs bs) = is ∙ ap (λ f. stored f d total cs bs) zero_is in
    record {
      rows_fit = fits.0;
      words-fit = fits.1;
      answer-is = ap (λ (r : ReadResult). r.answer) all;
      contents-are = ap (λ (r : ReadResult). r.contents) all;
      bodies-are = ap (λ (r : ReadResult). r.bodies) all;
    }
