-- The laws of gathering entries, row by row.
use Rattle.std.specs.Prelude.{◌≡◌, refl, Bool, true, false, cond, ℕ, suc, ◌+◌, ◌<◌, ◌≤◌, List, [], ◌∷◌, ◌++◌, length, take, drop, set, get_or}
use Rattle.std.proofs.Common.{sym, ap, subst, ◌∙◌, true≢false, arith, append-nil, append_assoc, length-append}
use Rattle.std.proofs.lemmas.Bool.{false≢true}
use Rattle.std.proofs.lemmas.List.{set_split}
use Rattle.format.specs.Pass.{put}
use Rattle.format.specs.PassLaws.{put-fits, put-short}
use Rattle.drawing.specs.String.{String, equal}
use Rattle.drawing.specs.Object.{Object}
use Rattle.drawing.specs.Drawing.{Drawing, outer}
use Rattle.drawing.specs.Table.{IsTable}
use Rattle.drawing.specs.Order.{objects_of, description_of, entries_from, entries}
use Rattle.drawing.specs.Answers.{rows_of}
use Rattle.laws.specs.TableLaws.{table_unique}
use Rattle.ways.specs.Written.{nothing_written, put_written, both-written, same-written}
use Rattle.laws.specs.RowBodyLaws.{drop-objects, no_objects}
use Rattle.places.specs.Rows.{TableHere}
use Rattle.places.specs.RowLaws.{object-here}
use Rattle.listing.specs.Entries.{Labels, entry_of, Entered, Gathering, Enters}

-- ---- one entry

pub entry-put : (list : List ℕ) (place row : ℕ) → place < length list → set list place row ≡ put place (row ∷ []) list
entry-put list place row h =
    let one : suc place ≡ place + 1 = omega arith in
    set_split list place row h ∙ ap (λ n. take place list ++ (row ∷ drop n list)) one ∙ sym (put-fits place (row ∷ []) list (omega arith))

pub entry_nowhere : (list : List ℕ) (place row : ℕ) → length list ≤ place → list ≡ put place (row ∷ []) list
entry_nowhere list place row h = sym (put-short place (row ∷ []) list (omega arith))

pub entered : {labelled : Bool} {count row : ℕ} {list list' : List ℕ} → labelled ≡ true → list' ≡ put count (row ∷ []) list → Entered labelled count row list list' (count + 1)
entered {labelled = true} {row = row} is stored = record { written = put_written (row ∷ []) stored; count_is = refl }
entered {labelled = false} is stored = absurd (false≢true is)

pub not_entered : {labelled : Bool} {count row : ℕ} {list : List ℕ} → labelled ≡ false → Entered labelled count row list list count
not_entered {labelled = false} is = record { written = nothing_written; count_is = omega arith }
not_entered {labelled = true} is = absurd (true≢false is)

-- The same of a row that is seen as a row of this table.
pub labels-as : {c c' bs bs' label : List ℕ} {v v' r r' : ℕ} {t : Bool} → c ≡ c' → bs ≡ bs' → v ≡ v' → r ≡ r' → Labels c bs v r label t → Labels c' bs' v' r' label t
labels-as {c} {c'} {bs} {bs'} {label} {v} {v'} {r} {r'} {t} c-is bs-is v-is r-is labels =
    subst (λ x. Labels x bs' v' r' label t) c-is (subst (λ x. Labels c x v' r' label t) bs-is (subst (λ x. Labels c bs x r' label t) v-is (subst (λ x. Labels c bs v x label t) r-is labels)))

-- ---- a table

-- No two drawings share a table.
pub same-drawing : {c bs : List ℕ} {d e : Drawing} → IsTable c bs d → IsTable c bs e → d ≡ e
same-drawing {c} {bs} {d} {e} t u =
    table_unique d e t.acceptable u.acceptable (sym t.contents-are ∙ u.contents-are) (sym t.bodies-are ∙ u.bodies-are)

module _ {c bs : List ℕ} {rows version : ℕ} (table : TableHere c bs rows version) where
  module _ (label : String) where
    abbrev pub objects : List Object
    objects = objects_of table.d

    pub gather_none : (list : List ℕ) → Gathering label objects 0 0 list list
    gather_none list = record { done = []; same = refl; count_is = refl; few = omega arith; written = nothing_written }

    module _ {row count : ℕ} {list list' : List ℕ} (so : Gathering label objects row count list list') where
      pub gather_one : row < rows → {labelled : Bool} → Labels c bs version row label labelled → {list'' : List ℕ} {n : ℕ} → Entered labelled count row list' list'' n → Gathering label objects (row + 1) n list list''
      gather_one more {labelled} labels {list''} {n} one_more =
          let inside : row < rows_of table.d = subst (λ k. row < k) table.rows_are more in
          let o = get_or objects row (outer table.d) in
          let is : labelled ≡ equal (description_of o) label = labels o (object-here table row more) in
          let one : suc row ≡ row + 1 = omega arith in
          let long = length-append so.done (entry_of labelled row) in
          record {
            done = so.done ++ entry_of labelled row;
            same =
                so.same
                ∙ ap (λ l. so.done ++ entries_from row label l) (drop-objects table.d row inside)
                ∙ ap (λ t. so.done ++ cond t (row ∷ entries_from (suc row) label (drop (suc row) objects)) (entries_from (suc row) label (drop (suc row) objects))) (sym is)
                ∙ ap (λ l. so.done ++ l) (split labelled (entries_from (suc row) label (drop (suc row) objects)))
                ∙ sym (append_assoc so.done (entry_of labelled row) (entries_from (suc row) label (drop (suc row) objects)))
                ∙ ap (λ k. (so.done ++ entry_of labelled row) ++ entries_from k label (drop k objects)) one;
            count_is = omega (arith, one_more.count_is, so.count_is, long);
            few = omega (arith, so.few, long, at_most labelled);
            written = both-written (so.count_is ∙ omega arith) so.written one_more.written;
          }
        where
          split : (t : Bool) (more : List ℕ) → cond t (row ∷ more) more ≡ entry_of t row ++ more
          split true more = refl
          split false more = refl

          at_most : (t : Bool) → length (entry_of t row) ≤ 1
          at_most true = omega arith
          at_most false = omega arith

      pub gather_all : (row < rows → ⊥) → row ≤ rows → Enters c bs label list list' count
      gather_all done most d is-table =
          let same : table.d ≡ d = same-drawing table.is-table is-table in
          let last : row ≡ rows_of table.d = omega (arith, done, most, table.rows_are) in
          let all : entries label table.d ≡ so.done =
          so.same
          ∙ ap (λ n. so.done ++ entries_from row label (drop n objects)) last
          ∙ ap (λ l. so.done ++ entries_from row label l) (no_objects table.d)
          ∙ append-nil so.done in
          let is : so.done ≡ entries label d = sym all ∙ ap (entries label) same in
          record { count_is = so.count_is ∙ ap length is; written = same-written is so.written }
