-- What was gathered is what the definition of the listing says.
use Rattle.std.specs.Prelude.{◌≡◌, refl, ℕ, ◌+◌, ◌^◌, ◌<◌, ◌≤◌, List, ◌++◌, leb, length, drop, get_or}
use Rattle.std.proofs.Common.{sym, ap, ap₂, subst, ◌∙◌, arith, le-leb}
use Rattle.std.proofs.Math.Option.{Option, none, some}
use Rattle.std.proofs.lemmas.Bool.{lt-leb}
use Rattle.format.specs.Digits.{Below}
use Rattle.drawing.specs.declared.Answer.{Answer}
use Rattle.drawing.specs.Limits.{length_limit}
use Rattle.drawing.specs.Fields.{unless}
use Rattle.drawing.specs.String.{String}
use Rattle.drawing.specs.Drawing.{Drawing}
use Rattle.drawing.specs.Table.{IsTable}
use Rattle.drawing.specs.TableDrawing.{drawing_of_table}
use Rattle.drawing.specs.Order.{entries}
use Rattle.drawing.specs.Answers.{answer, rows_of, overwrite, listed}
use Rattle.drawing.specs.Computed.{check_from, list_from, list_output}
use Rattle.promises.specs.Promises.{Checks, Lists}
use Rattle.promises.proofs.PromiseLaws.{lists}
use Rattle.laws.specs.EntryLaws.{entries-length_le}
use Rattle.laws.specs.TableLaws.{drawing-of_table}
use Rattle.laws.specs.RowBodyLaws.{version_word}
use Rattle.places.specs.Rows.{TableHere}
use Rattle.places.specs.RowLaws.{checked-drawing, rows-small}
use Rattle.listing.specs.Entries.{Enters}

module _ {c bs : List ℕ} (below : Below (2 ^ 32) bs) {a : Answer} (checks : Checks c bs a) (label : String) (list : List ℕ) where
  pub list_refused : (a.number ≡ 0 → ⊥) → Lists c bs label list a list
  list_refused gone = lists below (by (drawing_of_table c bs) refl)
    where
      by : (o : Option Drawing) → drawing_of_table c bs ≡ o → record { answer = a; buffer = list } ≡ list_output c bs label list
      by none is = ap (λ x. record { answer = x; buffer = list }) (checks.says ∙ ap check_from is) ∙ sym (ap (λ o. list_from o label list) is)
      by (some d) is = absurd (gone (ap (λ x. x.number) (checks.says ∙ ap check_from is)))

  module _ (on : a.number ≡ 0) where
    record Here : Type 0 where
      d : Drawing
      is : drawing_of_table c bs ≡ some d
      table : IsTable c bs d
      rows_are : a.rows ≡ rows_of d

    here : Here
    here =
        let h = checked-drawing checks on in
        record { d = h.0; is = h.1.0; table = (drawing-of_table c bs below h.0).0 h.1.0; rows_are = h.1.1 }

    pub table_here : TableHere c bs a.rows (get_or bs 0 0)
    table_here = record { d = here.d; is-table = here.table; rows_are = here.rows_are; version-is = version_word c bs here.d here.table }

    pub some_word : 0 < length bs
    some_word = subst (λ l. 0 < length l) (sym here.table.bodies-are) (omega arith)

    module _ {l l' : List ℕ} {count : ℕ} (counted : Enters c bs label l l' count) where
      count_is : count ≡ length (entries label here.d)
      count_is = (counted here.d here.table).count_is

      few : count ≤ a.rows
      few = omega (arith, count_is, entries-length_le label here.d, here.rows_are)

      pub count_small : count ≤ length_limit
      count_small = omega (arith, few, rows-small table_here)

      by-room : (n : ℕ) → unless (leb (length (entries label here.d)) (length list)) 18 ≡ n → listed n (entries label here.d) list ≡ list_output c bs label list
      by-room n is = ap (λ k. listed k (entries label here.d) list) (sym is) ∙ sym (ap (λ o. list_from o label list) here.is)

      pub list_short : length list < count → Lists c bs label list (answer 18 count 0 0) list
      list_short short =
          let lacks = lt-leb (length (entries label here.d)) (length list) (subst (λ n. length list < n) count_is short) in
          lists below (ap (λ n. record { answer = answer 18 n 0 0; buffer = list }) count_is ∙ by-room 18 (ap (λ t. unless t 18) lacks))

      pub list_stored : (length list < count → ⊥) → {list' : List ℕ} {n : ℕ} → Enters c bs label list list' n → Lists c bs label list (answer 0 0 count 0) list'
      list_stored room {list'} gathered =
          let E = entries label here.d in
          let fits : length E ≤ length list = subst (λ n. n ≤ length list) count_is (omega (arith, room)) in
          let from_zero : 0 + length E ≡ length E = omega arith in
          let stored : list' ≡ overwrite E list = (gathered here.d here.table).written.stands (rw from_zero fits) ∙ ap (λ n. E ++ drop n list) from_zero in
          lists below
          (ap₂ (λ n l. record { answer = answer 0 0 n 0; buffer = l }) count_is stored
          ∙ by-room 0 (ap (λ t. unless t 18) (le-leb (length E) (length list) fits)))

    -- Room for all rows is room for the entries, whose count is then known only with them stored.
    pub list_stored-at_once : a.rows ≤ length list → {list' : List ℕ} {n : ℕ} → Enters c bs label list list' n → Lists c bs label list (answer 0 0 n 0) list'
    list_stored-at_once room gathered = list_stored gathered (λ short. omega (arith, short, few gathered, room)) gathered
