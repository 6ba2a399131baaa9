-- The laws of reading: what the first pass says decides the answer, and the second pass stores what the definition does.
use Rattle.std.specs.Prelude.{◌≡◌, refl, Bool, true, false, cond, ℕ, ◌+◌, ◌-◌, ◌/◌, ◌<◌, ◌≤◌, List, [], ◌∷◌, ◌++◌, leb, ltb, length, drop}
use Rattle.std.proofs.Common.{sym, ap, ap₂, subst, ◌∙◌, arith, le-leb, ltb-false}
use Rattle.std.proofs.Math.Nat as Nat
use Rattle.std.proofs.lemmas.Bool.{lt-leb}
use Rattle.format.specs.Digits.{Below}
use Rattle.format.specs.Codec.{Outcome, found, refused}
use Rattle.format.specs.Parse.{parse}
use Rattle.format.specs.Pass.{splice}
use Rattle.drawing.specs.declared.Answer.{Answer}
use Rattle.drawing.specs.Reading.{bytes, Reading, drawing, refusal, reading, drawing_of}
use Rattle.drawing.specs.Limits.{length_limit}
use Rattle.drawing.specs.Fields.{unless, or_else}
use Rattle.drawing.specs.Drawing.{Drawing, outer, file as file_layout}
use Rattle.drawing.specs.Table.{head_words, contents_of, bodies_of}
use Rattle.drawing.specs.Answers.{answer, overwrite, rows_of, word_count, room_fault, stored}
use Rattle.drawing.specs.Computed.{read_from, read_result}
use Rattle.laws.specs.OrderLaws.{contents-length}
use Rattle.laws.specs.RoomLaws.{splice-first, lacks_rows, lacks_words, has_room}
use Rattle.promises.specs.Promises.{Reads}
use Rattle.promises.proofs.PromiseLaws.{reads}
use Rattle.ways.specs.Passes as Passes
use Rattle.ways.specs.Written.{Writes}
use Rattle.rows.specs.declared.walked.Walked.{Walked}
use Rattle.reader.specs.Files.{Kept, ComesFile, DescendsFile}
use Rattle.laws.specs.NumberLaws.{number_small}

-- The file was found to hold a drawing, with so many rows and words, up to a place.
pub record Judged (file : List ℕ) (at rows words : ℕ) : Type 0 where
  pub d : Drawing
  pub reads : drawing_of file ≡ drawing d
  pub short : length file ≤ length_limit
  pub at-is : at ≡ length file
  pub rows_are : rows ≡ rows_of d
  pub words_are : words ≡ word_count d
  pub few-rows : rows ≤ length_limit
  pub few_words : words ≤ length_limit

-- It was refused, with this number and at this offset.
pub record Refused (file : List ℕ) (n offset : ℕ) : Type 0 where
  pub reads : drawing_of file ≡ refusal n offset
  pub small : n ≤ 13
  pub near : offset ≤ length_limit

-- ---- the first pass

offset_read : (total n o : ℕ) (q : Outcome Drawing) → total ≤ length_limit → reading total q ≡ refusal n o → o ≤ length_limit
offset_read total n o (found d []) short e = let z : ◌≡◌ {A = ℕ} 0 1 = cc in absurd (omega arith)
offset_read total n o (found d (b ∷ rest)) short e = let same : total - length (b ∷ rest) ≡ o = cc in omega arith
offset_read total n o (refused m place) short e = let same : total - length place ≡ o = cc in omega arith

offset_small : (file : List ℕ) (n o : ℕ) → drawing_of file ≡ refusal n o → o ≤ length_limit
offset_small file n o e = by (ltb length_limit (length file)) refl
  where
    by : (t : Bool) → ltb length_limit (length file) ≡ t → o ≤ length_limit
    by true is =
        let same : refusal 1 length_limit ≡ refusal n o = ap (λ t. cond t (refusal 1 length_limit) (reading (length file) (parse bytes file_layout file))) (sym is) ∙ e in
        let here : length_limit ≡ o = cc in
        omega arith
    by false is =
        offset_read (length file) n o (parse bytes file_layout file) (ltb-false length_limit (length file) is)
        (ap (λ t. cond t (refusal 1 length_limit) (reading (length file) (parse bytes file_layout file))) (sym is) ∙ e)

module _ {file cs bs cs' bs' : List ℕ} {r : Walked} (descends : DescendsFile file cs bs cs' bs' r) where
  pub judged-refused : Below 256 file → Passes.refused ≤ r.at → Refused file r.to (r.at - Passes.refused)
  judged-refused below off = by (drawing_of file) refl descends.comes
    where
      by : (q : Reading) → drawing_of file ≡ q → ComesFile file cs bs cs' bs' r q → Refused file r.to (r.at - Passes.refused)
      by (drawing d) is kept = absurd (omega (arith, kept.at-is, kept.short))
      by (refusal n o) is gone =
          let back : o ≡ r.at - Passes.refused = omega (arith, gone.at-is) in
          let reads : drawing_of file ≡ refusal r.to (r.at - Passes.refused) = is ∙ ap₂ (λ x y. refusal x y) (sym gone.to_is) back in
          record { reads = reads; small = number_small file below r.to (r.at - Passes.refused) reads; near = offset_small file r.to (r.at - Passes.refused) reads }

  pub judged_good : r.at < Passes.refused → Judged file r.at r.row r.to
  judged_good on = by (drawing_of file) refl descends.comes
    where
      by : (q : Reading) → drawing_of file ≡ q → ComesFile file cs bs cs' bs' r q → Judged file r.at r.row r.to
      by (drawing d) is kept =
          record { d = d; reads = is; short = kept.short; at-is = kept.at-is; rows_are = kept.row_is; words_are = kept.to_is; few-rows = kept.few-rows; few_words = kept.few_words }
      by (refusal n o) is gone = absurd (omega (arith, gone.at-is))

  -- The second pass meets the same drawing.
  pub kept_again : {d : Drawing} → drawing_of file ≡ drawing d → Kept d file cs bs cs' bs' r
  kept_again is = subst (ComesFile file cs bs cs' bs' r) is descends.comes

-- ---- the answer

overwritten : {ws m m' : List ℕ} → Writes 0 ws m m' → length ws ≤ length m → m' ≡ overwrite ws m
overwritten {ws} {m} written fits = written.stands (omega arith) ∙ splice-first ws m

module _ (file cs bs : List ℕ) (below : Below 256 file) where
  pub read_refused : {n o : ℕ} {a : Answer} → Refused file n o → a ≡ answer n o 0 0 → Reads file cs bs a cs bs
  read_refused gone is = reads below (ap (λ a. record { answer = a; contents = cs; bodies = bs }) is ∙ sym (ap (λ q. read_from q (length file) cs bs) gone.reads))

  module _ (at rows words : ℕ) (j : Judged file at rows words) where
    same_result : read_result file cs bs ≡ stored (room_fault j.d cs bs) j.d (length file) cs bs
    same_result = ap (λ q. read_from q (length file) cs bs) j.reads

    pub short-rows : {a : Answer} → length cs / 4 < rows → a ≡ answer 14 at rows words → Reads file cs bs a cs bs
    short-rows lack is = reads below (lacks_rows j.d (length file) cs bs j.at-is j.rows_are j.words_are lack is ∙ sym same_result)

    module _ (rows_fit : rows ≤ length cs / 4) where
      pub short-words : {a : Answer} → length bs < words → a ≡ answer 15 at rows words → Reads file cs bs a cs bs
      short-words lack is = reads below (lacks_words j.d (length file) cs bs j.at-is j.rows_are j.words_are rows_fit lack is ∙ sym same_result)

      pub read_stored : {cs' bs' : List ℕ} {r : Walked} {a : Answer} → words ≤ length bs → DescendsFile file cs bs cs' bs' r → a ≡ answer 0 at rows words → Reads file cs bs a cs' bs'
      read_stored {cs'} {bs'} {r} words-fit descends is =
          let kept = kept_again descends j.reads in
          let long = contents-length (outer j.d) j.d.version 0 0 (length (head_words j.d)) in
          let rows-stored : cs' ≡ overwrite (contents_of j.d) cs = overwritten kept.rows_written (omega (arith, long, rows_fit, j.rows_are)) in
          let words-stored : bs' ≡ overwrite (bodies_of j.d) bs = overwritten kept.words-written (omega (arith, words-fit, j.words_are)) in
          reads below (has_room j.d (length file) cs bs j.at-is j.rows_are j.words_are rows_fit words-fit is rows-stored words-stored ∙ sym same_result)
