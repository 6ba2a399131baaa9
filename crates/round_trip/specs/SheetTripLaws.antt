-- The round trips of sheets, from what each call promises.
use Rattle.std.specs.Prelude.{◌≡◌, refl, ◌⊎◌, ℕ, ◌+◌, ◌*◌, ◌/◌, ◌^◌, ◌≤◌, List, ◌++◌, leb, length, take, drop}
use Rattle.std.proofs.Common.{sym, ap, ap₂, subst, ◌∙◌, inl, inr, arith, length-append, le-leb}
use Rattle.format.specs.Digits.{Below}
use Rattle.drawing.specs.declared.Answer.{Answer}
use Rattle.drawing.specs.Fields.{unless}
use Rattle.drawing.specs.String.{String}
use Rattle.drawing.specs.Drawing.{Drawing, outer}
use Rattle.drawing.specs.Table.{head_words, contents_of, bodies_of, IsTable}
use Rattle.drawing.specs.Sheet.{number_bytes, sheet_of, IsSheet}
use Rattle.drawing.specs.Order.{entries}
use Rattle.drawing.specs.Answers.{answer, rows_of, word_count, overwrite, ReadResult, Output, written}
use Rattle.promises.specs.Promises.{WritesSheet, ReadsSheet, Listed, Lists, Demanded, demand3}
use Rattle.promises.proofs.PromiseLaws.{opened}
use Rattle.laws.specs.OrderLaws.{contents-length}
use Rattle.laws.specs.AnswerLaws.{take-overwrite, written-zero}
use Rattle.laws.specs.RoomLaws.{Stored, table_stored, has_room}
use Rattle.round_trip.specs.SheetTrip.{SheetComesBack, TableComesBackBySheet, ListsSheet}

rows_long : (d : Drawing) → length (contents_of d) ≡ 4 * rows_of d
rows_long d = contents-length (outer d) d.version 0 0 (length (head_words d))

-- ---- what a sheet that was read has left

module _ {S cs bs cs' bs' : List ℕ} {a : Answer} (reads : ReadsSheet S cs bs a cs' bs') where
  record Kept : Type 0 where
    d : Drawing
    is-sheet : IsSheet S d
    stored : Stored d (length (sheet_of number_bytes d)) cs bs a cs' bs'

  kept : a.number ≡ 0 → Kept
  kept on = by (opened reads.decides).one-or-other
    where
      by : ((d : Drawing) × IsSheet S d) ⊎ ((d : Drawing) → IsSheet S d → ⊥) → Kept
      by (inl has) = record { d = has.0; is-sheet = has.1; stored = table_stored ((opened reads.decides).one has.0 has.1) on }
      by (inr none_has) =
          let z : ◌≡◌ {A = ℕ} 0 19 = sym on ∙ ap (λ (r : ReadResult). r.answer.number) ((opened reads.decides).none none_has) in
          absurd (omega arith)

  module _ (on : a.number ≡ 0) where
    pub parts_fit : (4 * a.rows ≤ length cs) × (a.words ≤ length bs)
    parts_fit =
        let k = kept on in
        let rows_are = ap (λ (x : Answer). x.rows) k.stored.answer-is in
        let words_are = ap (λ (x : Answer). x.words) k.stored.answer-is in
        (omega (arith, k.stored.rows_fit, rows_are), omega (arith, k.stored.words-fit, words_are))

    -- What stands at the beginning of both runs is the table of the drawing whose sheet it is.
    parts-of : (d : Drawing) → IsSheet S d → IsTable (take (4 * a.rows) cs') (take a.words bs') d
    parts-of d sheet =
        let table : Stored d (length (sheet_of number_bytes d)) cs bs a cs' bs' = table_stored ((opened reads.decides).one d sheet) on in
        let rows_are = ap (λ (x : Answer). x.rows) table.answer-is in
        let words_are = ap (λ (x : Answer). x.words) table.answer-is in
        record {
          acceptable = sheet.acceptable;
          contents-are = ap₂ (λ n l. take (4 * n) l) rows_are table.contents-are ∙ take-overwrite (contents_of d) cs (4 * rows_of d) (rows_long d);
          bodies-are = ap₂ take words_are table.bodies-are ∙ take-overwrite (bodies_of d) bs (word_count d) refl;
        }

  -- ---- a sheet, read and written again

  pub sheet-refused : (a.number ≡ 0 → ⊥) → {copy : List ℕ} → SheetComesBack S cs bs copy cs' bs' copy (record { first = a; second = a })
  sheet-refused gone = record { reads = reads; writes = λ on. absurd (gone on); refused = λ other. (refl, refl); back = λ on room. absurd (gone on) }

  pub sheet-back : a.number ≡ 0 → {copy copy' : List ℕ} {w : Answer} → WritesSheet (take (4 * a.rows) cs') (take a.words bs') copy w copy'
      → SheetComesBack S cs bs copy cs' bs' copy' (record { first = a; second = w })
  sheet-back on {copy} {copy'} {w} writes =
      record {
        reads = reads;
        writes = λ zero_is. writes;
        refused = λ gone. absurd (gone on);
        back = λ zero_is room. (ap (λ (o : Output). o.answer) (both room), ap (λ (o : Output). o.buffer) (both room));
      }
    where
      both : length S ≤ length copy → ◌≡◌ {A = Output} (record { answer = w; buffer = copy' }) (record { answer = a; buffer = overwrite S copy })
      both room =
          let k = kept on in
          let d = k.d in
          let bytes = k.is-sheet.bytes_are in
          let fits : length (sheet_of number_bytes d) ≤ length copy = subst (λ l. length l ≤ length copy) bytes room in
          (opened writes.decides).one d (parts-of on d k.is-sheet)
          ∙ ap (λ t. written (unless t 17) (sheet_of number_bytes d) d copy) (le-leb (length (sheet_of number_bytes d)) (length copy) fits)
          ∙ ap₂ {C = Output} (λ x l. record { answer = x; buffer = overwrite l copy }) (sym k.stored.answer-is) (sym bytes)

  -- ---- a sheet, read and listed

  module _ {label : String} {list : List ℕ} where
    pub list_refused : (a.number ≡ 0 → ⊥) → ListsSheet S cs bs label list cs' bs' list (record { first = a; second = a })
    list_refused gone =
        record {
          reads = reads;
          lists = λ on. absurd (gone on);
          refused = λ other. (refl, refl);
          demands = λ d sheet rows words room. absurd (gone (ap (λ (r : ReadResult). r.answer.number) (accepted d sheet rows words)));
        }
      where
        accepted : (d : Drawing) → IsSheet S d → rows_of d ≤ length cs / 4 → word_count d ≤ length bs
            → ◌≡◌ {A = ReadResult} (record { answer = a; contents = cs'; bodies = bs' }) (record { answer = answer 0 (length (sheet_of number_bytes d)) (rows_of d) (word_count d); contents = overwrite (contents_of d) cs; bodies = overwrite (bodies_of d) bs })
        accepted d sheet rows words =
            (opened reads.decides).one d sheet
            ∙ sym (has_room d (length (sheet_of number_bytes d)) cs bs refl refl refl rows words refl refl refl)

    pub listed : a.number ≡ 0 → {list' : List ℕ} {l : Answer} → Lists (take (4 * a.rows) cs') (take a.words bs') label list l list' → ListsSheet S cs bs label list cs' bs' list' (record { first = a; second = l })
    listed on {list'} {l} lists =
        record {
          reads = reads;
          lists = λ zero_is. lists;
          refused = λ gone. absurd (gone on);
          demands = λ d sheet rows words room. by d (parts-of on d sheet) lists.demands room;
        }
      where
        by : (d : Drawing) → IsTable (take (4 * a.rows) cs') (take a.words bs') d → Demanded (take (4 * a.rows) cs') (take a.words bs') label list l list' → length (entries label d) ≤ length list
            → (a.number ≡ 0) × (l.number ≡ 0) × (l.rows ≤ length list) × Listed (contents_of d) label d (take l.rows list')
        by d table (demand3 demand) room =
            let x = demand d table room in
            (on, x.0, x.1, subst (λ c. Listed c label d (take l.rows list')) table.contents-are x.2)

-- ---- a table, written as a sheet and read again

module _ {cs bs S S' : List ℕ} {w : Answer} (writes : WritesSheet cs bs S w S') where
  record Packed : Type 0 where
    d : Drawing
    is-table : IsTable cs bs d
    answer-is : w ≡ answer 0 (length (sheet_of number_bytes d)) (rows_of d) (word_count d)
    sheet_is : S' ≡ overwrite (sheet_of number_bytes d) S

  packed : w.number ≡ 0 → Packed
  packed on = by (opened writes.decides).one-or-other
    where
      by : ((d : Drawing) × IsTable cs bs d) ⊎ ((d : Drawing) → IsTable cs bs d → ⊥) → Packed
      by (inl has) =
          let d = has.0 in
          let fit = leb (length (sheet_of number_bytes d)) (length S) in
          let is = (opened writes.decides).one d has.1 in
          let zero_is : unless fit 17 ≡ 0 = written-zero (unless fit 17) (sheet_of number_bytes d) d S (sym (ap (λ (o : Output). o.answer.number) is) ∙ on) in
          let all = is ∙ ap (λ f. written f (sheet_of number_bytes d) d S) zero_is in
          record { d = d; is-table = has.1; answer-is = ap (λ (o : Output). o.answer) all; sheet_is = ap (λ (o : Output). o.buffer) all }
      by (inr none_has) =
          let z : ◌≡◌ {A = ℕ} 0 16 = sym on ∙ ap (λ (o : Output). o.answer.number) ((opened writes.decides).none none_has) in
          absurd (omega arith)

  pub table_refused_lem : (w.number ≡ 0 → ⊥) → {c b : List ℕ} → TableComesBackBySheet cs bs S c b S' c b (record { first = w; second = w })
  table_refused_lem gone = record { writes = writes; reads = λ on. absurd (gone on); refused = λ other. (refl, refl, refl); back = λ on rows words. absurd (gone on) }

  module _ (on : w.number ≡ 0) where
    pub sheet-fits : w.offset ≤ length S'
    sheet-fits =
        let p = packed on in
        let offset = ap (λ (x : Answer). x.offset) p.answer-is in
        let long = ap length p.sheet_is in
        let sum = length-append (sheet_of number_bytes p.d) (drop (length (sheet_of number_bytes p.d)) S) in
        omega (arith, offset, long, sum)

    pub table_back : {c b c' b' : List ℕ} {a : Answer} → ReadsSheet (take w.offset S') c b a c' b' → TableComesBackBySheet cs bs S c b S' c' b' (record { first = w; second = a })
    table_back {c} {b} {c'} {b'} {a} reads =
        record {
          writes = writes;
          reads = λ zero_is. reads;
          refused = λ gone. absurd (gone on);
          back = λ zero_is rows words. let r = both rows words in (ap (λ (r : ReadResult). r.answer) r, ap (λ (r : ReadResult). r.contents) r, ap (λ (r : ReadResult). r.bodies) r);
        }
      where
        both : length cs ≤ length c → length bs ≤ length b → ◌≡◌ {A = ReadResult} (record { answer = a; contents = c'; bodies = b' }) (record { answer = w; contents = overwrite cs c; bodies = overwrite bs b })
        both rows words =
            let p = packed on in
            let d = p.d in
            let bytes : take w.offset S' ≡ sheet_of number_bytes d =
            ap₂ take (ap (λ (x : Answer). x.offset) p.answer-is) p.sheet_is ∙ take-overwrite (sheet_of number_bytes d) S (length (sheet_of number_bytes d)) refl in
            let all-rows : length cs ≡ 4 * rows_of d = ap length p.is-table.contents-are ∙ rows_long d in
            let all_words : length bs ≡ word_count d = ap length p.is-table.bodies-are in
            let rows_fit : rows_of d ≤ length c / 4 = omega (arith, all-rows, rows) in
            let words-fit : word_count d ≤ length b = omega (arith, all_words, words) in
            (opened reads.decides).one d (record { acceptable = p.is-table.acceptable; bytes_are = bytes })
            ∙ sym (has_room d (length (sheet_of number_bytes d)) c b refl refl refl rows_fit words-fit refl refl refl)
            ∙ ap (λ x. record { answer = x; contents = overwrite (contents_of d) c; bodies = overwrite (bodies_of d) b }) (sym p.answer-is)
            ∙ ap₂ {C = ReadResult} (λ x y. record { answer = w; contents = overwrite x c; bodies = overwrite y b }) (sym p.is-table.contents-are) (sym p.is-table.bodies-are)
