-- The laws of row bodies: each row of a drawing's table says where its object's own words stand, and what these are.
use Rattle.std.specs.Prelude.{◌≡◌, refl, Bool, true, false, ℕ, zero, suc, ◌+◌, ◌*◌, ◌-◌, ◌<◌, ◌≤◌, List, [], ◌∷◌, ◌++◌, length, get_or, drop, ltb}
use Rattle.std.proofs.Common.{sym, ap, subst, ◌∙◌, zero-add, add-zero, arith, append-nil, append_assoc, length-append, drop_of_length-le, ltb-true, ltb-false, drop-cons, get_or-drop}
use Rattle.std.proofs.Math.Option.{none, some}
use Rattle.std.proofs.Math.ListN.{get_elem?}
use Rattle.std.proofs.Math.Seq.{drop-append_seam}
use Rattle.format.specs.Alternative.{chosen}
use Rattle.drawing.specs.Limits.{depth_limit}
use Rattle.drawing.specs.String.{String}
use Rattle.drawing.specs.Object.{Leaf, Object, leaf, group, Objects, none, more, list_of}
use Rattle.drawing.specs.ObjectId.{leaf_letter}
use Rattle.drawing.specs.LeafLayout.{path_case, other_cases, leaf_body, object_end}
use Rattle.drawing.specs.ObjectLayout.{object}
use Rattle.drawing.specs.Drawing.{Drawing, outer}
use Rattle.drawing.specs.Table.{group_words, rows, bodies, bodies_all, contents, contents_all, head_words, contents_of, start_in, IsTable}
use Rattle.drawing.specs.Order.{preorder, preorder_all, objects_of, description_of}
use Rattle.drawing.specs.Answers.{rows_of}
use Rattle.laws.specs.ObjectGood.{good_leaf, good_group, no_group}
use Rattle.laws.specs.FileGood.{file-parts}
use Rattle.laws.specs.WalkComplete.{AllGood}
use Rattle.laws.specs.OrderLaws.{rows-preorder, contents-length, Each, each_append, each_at, beyond}
use Rattle.laws.specs.Standing.{WordsStand, Here}
use Rattle.laws.specs.StandingLaws.{stands_long, stands_first, stands_next, here-first}
use Rattle.laws.specs.RowBodies.{own_words, object_kind, OwnGood, RowBody}

-- ---- objects by their rows

module _ {A : Type 0} where
  element_at : (l : List A) (i : ℕ) (z : A) → i < length l → get_elem? l i ≡ some (get_or l i z)
  element_at [] i z h = absurd (omega arith)
  element_at (x ∷ l) zero z h = refl
  element_at (x ∷ l) (suc i) z h = element_at l i z (omega arith)

  no_element : (l : List A) (i : ℕ) → length l ≤ i → get_elem? l i ≡ none
  no_element [] i h = refl
  no_element (x ∷ l) zero h = absurd (omega arith)
  no_element (x ∷ l) (suc i) h = no_element l i (omega arith)

pub row-object : (d : Drawing) (r : ℕ) → r < rows_of d → get_elem? (objects_of d) r ≡ some (get_or (objects_of d) r (outer d))
row-object d r h = let l = rows-preorder (outer d) in element_at (objects_of d) r (outer d) (omega arith)

pub no_row : (d : Drawing) (r : ℕ) → rows_of d ≤ r → get_elem? (objects_of d) r ≡ none
no_row d r h = let l = rows-preorder (outer d) in no_element (objects_of d) r (omega arith)

-- What a row number finds has that row.
pub object-row : (d : Drawing) (r : ℕ) (o : Object) → get_elem? (objects_of d) r ≡ some o → (r < rows_of d) × (get_or (objects_of d) r (outer d) ≡ o)
object-row d r o is = by (ltb r (rows_of d)) refl
  where
    by : (b : Bool) → ltb r (rows_of d) ≡ b → (r < rows_of d) × (get_or (objects_of d) r (outer d) ≡ o)
    by true h = let less = ltb-true r (rows_of d) h in (less, let e = sym (row-object d r less) ∙ is in cc)
    by false h = let e = sym (no_row d r (ltb-false r (rows_of d) h)) ∙ is in let z : ◌≡◌ {A = ℕ} 0 1 = cc in absurd (omega arith)

pub drop-objects : (d : Drawing) (i : ℕ) → i < rows_of d → drop i (objects_of d) ≡ get_or (objects_of d) i (outer d) ∷ drop (suc i) (objects_of d)
drop-objects d i h = let l = rows-preorder (outer d) in drop-cons (objects_of d) i (outer d) (omega arith)

pub no_objects : (d : Drawing) → drop (rows_of d) (objects_of d) ≡ []
no_objects d = let l = rows-preorder (outer d) in drop_of_length-le (objects_of d) {i = rows_of d} (omega arith)

-- ---- the head

-- The first word of the bodies.
pub version_word : (c bs : List ℕ) (d : Drawing) → IsTable c bs d → get_or bs 0 0 ≡ d.version
version_word c bs d t = ap (λ l. get_or l 0 0) t.bodies-are

-- ---- rows and bodies

module _ (v : ℕ) (C B : List ℕ) where
  -- One row and the words that it tells of.
  says : {p at : ℕ} {behind rest : List ℕ} (own : ℕ) (o : Object)
      → drop (4 * own) C ≡ object_kind o ∷ p ∷ at ∷ length (own_words v o) ∷ behind
      → WordsStand B at (own_words v o) rest → OwnGood v o → RowBody C B v own o
  says {at = at} {rest = rest} own o e s g =
      let word : (i : ℕ) → get_or C (4 * own + i) 0 ≡ get_or (drop (4 * own) C) i 0 = λ i. sym (get_or-drop (4 * own) C i 0) in
      let start : get_or C (4 * own + 2) 0 ≡ at = word 2 ∙ ap (λ (l : List ℕ). get_or l 2 0) e in
      record {
        kind-is = rw add-zero at (word 0 ∙ ap (λ (l : List ℕ). get_or l 0 0) e);
        size_is = word 3 ∙ ap (λ (l : List ℕ). get_or l 3 0) e;
        rest = rest;
        words_are = rw start s.words_are;
        inside = rw start (stands_long s);
        good = g;
      }

  -- A group's row, and those of its members.
  group_rows : (os : Objects) (d : String) (p own at : ℕ) (behind rest : List ℕ) → OwnGood v (group os d)
      → drop (4 * own) C ≡ contents (group os d) v p own at ++ behind → WordsStand B at (bodies (group os d) v) rest
      → (drop (4 * suc own) C ≡ contents_all os v own (suc own) at ++ behind → WordsStand B at (bodies_all os v) (group_words v (length (list_of os)) d ++ rest) → Each (RowBody C B v) (suc own) (preorder_all os))
      → Each (RowBody C B v) own (preorder (group os d))
  group_rows os d p own at behind rest g e s members =
      let words = group_words v (length (list_of os)) d in
      let inner = stands_first (bodies_all os v) words s in
      let f = beyond v C (_ ∷ _ ∷ _ ∷ _ ∷ []) (contents_all os v own (suc own) at ++ behind) own (suc own) (omega arith) e in
      (says own (group os d) e (stands_next (bodies_all os v) words s) g, members f inner)

  -- Where an object's rows and bodies stand at their places, each of its rows says what it should.
  mutual
    each-object : (o : Object) (deep p own at : ℕ) (behind rest : List ℕ) → (object v deep).Good o
        → drop (4 * own) C ≡ contents o v p own at ++ behind → WordsStand B at (bodies o v) rest → Each (RowBody C B v) own (preorder o)
    each-object (leaf l d) deep p own at behind rest g e s = (says own (leaf l d) e s (good_leaf v deep l d g), tt)
    each-object (group os d) zero p own at behind rest g e s = absurd (no_group v os d g)
    each-object (group os d) (suc deep) p own at behind rest g e s =
        let body = good_group v deep os d g in
        group_rows os d p own at behind rest (body.0.1.0, body.1) e s
        (λ f inner. each_member os deep own (suc own) at behind (group_words v (length (list_of os)) d ++ rest) body.0.1.1 f inner)

    each_member : (os : Objects) (deep p own at : ℕ) (behind rest : List ℕ) → AllGood v deep os
        → drop (4 * own) C ≡ contents_all os v p own at ++ behind → WordsStand B at (bodies_all os v) rest → Each (RowBody C B v) own (preorder_all os)
    each_member none deep p own at behind rest g e s = tt
    each_member (more o os) deep p own at behind rest g e s =
        let next = own + rows o in
        let after = at + length (bodies o v) in
        let here = contents o v p own at in
        let others = contents_all os v p next after in
        let e' : drop (4 * own) C ≡ here ++ (others ++ behind) = rw append_assoc at e in
        let l = contents-length o v p own at in
        let f = beyond v C here (others ++ behind) own next (omega arith) e' in
        let first = stands_first (bodies o v) (bodies_all os v) s in
        each_append (RowBody C B v) (preorder o) (preorder_all os) own
        (each-object o deep p own at (others ++ behind) (bodies_all os v ++ rest) g.0 e' first)
        (rw rows-preorder (each_member os deep p next after behind rest g.1 f (stands_next (bodies o v) (bodies_all os v) s)))

-- The bodies stand behind the head.
bodies_stand : (c bs : List ℕ) (d : Drawing) → IsTable c bs d → WordsStand bs (length (head_words d)) (bodies (outer d) d.version) []
bodies_stand c bs d t =
    let own = bodies (outer d) d.version in
    let l = ap length t.bodies-are ∙ length-append (head_words d) own in
    record {
      within = omega arith;
      words_are = ap (drop (length (head_words d))) t.bodies-are ∙ drop-append_seam (head_words d) own ∙ sym (append-nil own);
    }

-- Each row of a drawing's table says what it should of its object.
pub row-body : (c bs : List ℕ) (d : Drawing) → IsTable c bs d → (r : ℕ) → r < rows_of d → RowBody c bs d.version r (get_or (objects_of d) r (outer d))
row-body c bs d t r h =
    let v = d.version in
    let os = d.members in
    let at = length (head_words d) in
    let g = (file-parts d t.acceptable.good).outer in
    let members = each_member v c bs os (depth_limit - 1) 0 1 at [] (group_words v (length (list_of os)) d.description ++ []) g.0.1.1 in
    let all = group_rows v c bs os d.description 0 0 at [] [] (g.0.1.0, g.1) (t.contents-are ∙ sym (append-nil (contents_of d))) (bodies_stand c bs d t) members in
    let l = rows-preorder (outer d) in
    rw zero-add at (each_at (RowBody c bs v) (objects_of d) 0 r (outer d) (omega arith) all)

-- The same, of the object that a row number finds.
pub object-body : (c bs : List ℕ) (d : Drawing) → IsTable c bs d → (r : ℕ) (o : Object) → get_elem? (objects_of d) r ≡ some o → RowBody c bs d.version r o
object-body c bs d t r o is = let at = object-row d r o is in subst (RowBody c bs d.version r) at.1 (row-body c bs d t r at.0)

-- The end of a row's object is good.
pub end_good : (c bs : List ℕ) (v r : ℕ) (o : Object) → RowBody c bs v r o → (object_end v).Good (description_of o)
end_good c bs v r (leaf l d) row = row.good.1
end_good c bs v r (group os d) row = row.good.1

-- A leaf's fields stand where its row says, and its end behind them.
module _ (c bs : List ℕ) (v r : ℕ) where
  pub body-here : (l : Leaf) (d : String) → RowBody c bs v r (leaf l d) → Here (leaf_body v (leaf_letter l)) bs (start_in c r) (l, d)
  body-here l d row = record { good = row.good; rest = row.rest; stands = record { within = omega (arith, row.inside); words_are = row.words_are } }

  pub leaf_here : (l : Leaf) (d : String) → RowBody c bs v r (leaf l d) → Here (chosen (path_case v) (other_cases v) (leaf_letter l)) bs (start_in c r) l
  leaf_here l d row = here-first (chosen (path_case v) (other_cases v) (leaf_letter l)) (object_end v) (body-here l d row)
