-- A good drawing's table is walked to that drawing's objects, whatever lies behind it.
use Rattle.std.specs.Prelude.{◌≡◌, refl, ℕ, zero, suc, ◌+◌, ◌-◌, ◌%◌, ◌/◌, ◌^◌, ◌<◌, List, [], ◌∷◌, ◌++◌, length, get_or, eqb}
use Rattle.std.proofs.Common.{sym, ap, ap₂, ◌∙◌, append_assoc, length-append, arith, add-one, eq-eqb, ne_eqb}
use Rattle.std.proofs.Math.Option.{none}
use Rattle.std.proofs.Math.Seq.{get_or-append_seam}
use Rattle.std.proofs.Math.Nat as Nat
use Rattle.format.specs.Kind.{Allowed}
use Rattle.format.specs.Spelling.{spell_all}
use Rattle.format.specs.FixedCodec.{spell_fixed}
use Rattle.drawing.specs.Codecs.{word_fields}
use Rattle.format.specs.Format.{Each, fields}
use Rattle.drawing.specs.Fields.{member_count}
use Rattle.drawing.specs.String.{String}
use Rattle.drawing.specs.Object.{Leaf, Object, leaf, group, Objects, none, more, list_of, of_list}
use Rattle.drawing.specs.ObjectId.{leaf_letter}
use Rattle.drawing.specs.LeafLayout.{is_leaf, leaf_body, object_end}
use Rattle.drawing.specs.ObjectLayout.{object}
use Rattle.laws.specs.ObjectGood.{GoodLeaf, leaf_on_lem, good_leaf, good_group, no_group}
use Rattle.drawing.specs.Table as Table
use Rattle.drawing.specs.Table.{leaf_kind, leaf_words, group_kind, group_own, group_words, rows, rows_all, bodies, bodies_all, row, contents, contents_all}
use Rattle.drawing.specs.TableDrawing.{Place, Walk, met, onward, provided, body, walk_many, walk_group, letter_of, walk_leaf, walk_kind, walk_object}
use Rattle.drawing.specs.KindLaws.{leaf_letter_lem, leaf_no_group}
use Rattle.laws.specs.WalkLaws.{body_met}

-- A place, by its four parts.
abbrev pub place : ℕ → List ℕ → ℕ → List ℕ → Place
place own C at B = record { row = own; contents = C; at = at; bodies = B }

-- ---- a drawing's table is walked to its drawing

leaf_met : (l : Leaf) (d : String) (v parent own at : ℕ) (C B : List ℕ) → GoodLeaf v l d
    → walk_leaf v parent (row (leaf_kind l) parent at (length (leaf_words v l d))) (place own C at (leaf_words v l d ++ B))
    ≡ met (leaf l d) (place own C (at + length (leaf_words v l d)) B)
leaf_met l d v parent own at C B g =
    let k = leaf_kind l in
    let r = row k parent at (length (leaf_words v l d)) in
    let p = place own C at (leaf_words v l d ++ B) in
    ap (λ t. provided t (onward (body (leaf_body v (letter_of k)) k parent r p) (λ (x, e) q. met (leaf x e) q))) (ap (is_leaf v) (leaf_letter_lem l) ∙ leaf_on_lem v l d g)
    ∙ ap (λ c. onward (body (leaf_body v c) k parent r p) (λ (x, e) q. met (leaf x e) q)) (leaf_letter_lem l)
    ∙ ap (λ w. onward w (λ (x, e) q. met (leaf x e) q)) (body_met (leaf_body v (leaf_letter l)) (l, d) g k parent own at C B)

walk_leaf_lem : (l : Leaf) (d : String) (v deep parent own at : ℕ) (C B : List ℕ) → GoodLeaf v l d
    → walk_object v deep parent (place own (contents (leaf l d) v parent own at ++ C) at (leaf_words v l d ++ B))
    ≡ met (leaf l d) (place (suc own) C (at + length (leaf_words v l d)) B)
walk_leaf_lem l d v zero parent own at C B g = leaf_met l d v parent (suc own) at C B g
walk_leaf_lem l d v (suc deep) parent own at C B g =
    ap (λ t. walk_kind t v (λ r. walk_object v deep own r) parent (row (leaf_kind l) parent at (length (leaf_words v l d))) (place (suc own) C at (leaf_words v l d ++ B))) (ne_eqb (leaf_kind l) group_kind (leaf_no_group l))
    ∙ leaf_met l d v parent (suc own) at C B g

-- The count in a group's body, found by where its row says that the body begins.
first_word : (at w : ℕ) (bs rest B : List ℕ) → get_or (bs ++ (w ∷ rest) ++ B) (at + length bs - at) 0 ≡ w
first_word at w bs rest B =
    let place : at + length bs - at ≡ length bs = omega arith in
    rw (place, append_assoc bs (w ∷ rest) B) (get_or-append_seam bs w (rest ++ B) 0)

pub one_word : (n : ℕ) → n < 256 ^ 4 → n / 1 % 2 ^ 32 ≡ n
one_word n h = rw Nat.div-one (Nat.mod-eq_of_lt h)

guessed : (v n : ℕ) (d : String) (at : ℕ) (bs B : List ℕ) → Allowed member_count n → get_or (bs ++ group_words v n d ++ B) (at + length bs - at) 0 ≡ n
guessed v n d at bs B a =
    first_word at (n / 1 % 2 ^ 32) bs (spell_all (spell_fixed word_fields) (fields (object_end v).format d)) B ∙ one_word n a.fits

-- A group with so many objects, behind whatever has walked over them.
abbrev counted : ℕ → ℕ → (Place → Walk Object) → (parent : ℕ) (row : List ℕ) → Place → Walk (Objects × String)
counted n v each parent row p =
    onward (walk_many n each p) (λ os q.
    onward (body (group_own v) group_kind parent row q) (λ own r.
    provided (eqb own.0 n) (met (of_list os, own.1) r)))

pub group_met : (v n : ℕ) (d : String) → (group_own v).Good (n, d) → (each : Place → Walk Object) (os : List Object) (parent own own' at : ℕ) (X C bs B : List ℕ)
    → walk_many n each (place own X at (bs ++ (group_words v n d ++ B))) ≡ met os (place own' C (at + length bs) (group_words v n d ++ B))
    → walk_group v each parent (row group_kind parent (at + length bs) (length (group_words v n d))) (place own X at (bs ++ group_words v n d ++ B))
    ≡ met (of_list os, d) (place own' C (at + length bs + length (group_words v n d)) B)
group_met v n d g each os parent own own' at X C bs B many =
    let gw = group_words v n d in
    let r = row group_kind parent (at + length bs) (length gw) in
    ap (λ m. counted m v each parent r (place own X at (bs ++ gw ++ B))) (guessed v n d at bs B g.0)
    ∙ ap (λ l. counted n v each parent r (place own X at l)) (append_assoc bs gw B)
    ∙ ap (λ w. onward w (λ xs q. onward (body (group_own v) group_kind parent r q) (λ o s. provided (eqb o.0 n) (met (of_list xs, o.1) s)))) many
    ∙ ap (λ w. onward w (λ o s. provided (eqb o.0 n) (met (of_list os, o.1) s))) (body_met (group_own v) (n, d) g group_kind parent own' (at + length bs) C B)
    ∙ ap (λ t. provided t (met (of_list os, d) (place own' C (at + length bs + length gw) B))) (eq-eqb n n refl)

pub objects-of_list : (os : Objects) → of_list (list_of os) ≡ os
objects-of_list none = refl
objects-of_list (more o os) = ap (λ l. more o l) (objects-of_list os)

abbrev pub AllGood : ℕ → ℕ → Objects → Type 0
AllGood v deep os = Each {S = Unit {0}} (λ s. (object v deep).Good) (λ s a. s) (length (list_of os)) tt (list_of os)

pub next_row_lem : (own n : ℕ) → suc own + n ≡ own + suc n
next_row_lem own n = omega arith

pub next_word : (at : ℕ) (bs cs : List ℕ) → at + length bs + length cs ≡ at + length (bs ++ cs)
next_word at bs cs = rw length-append (Nat.add_assoc at (length bs) (length cs))

mutual
  pub walk_object_lem : (o : Object) (v deep parent own at : ℕ) (C B : List ℕ) → (object v deep).Good o
      → walk_object v deep parent (place own (contents o v parent own at ++ C) at (bodies o v ++ B))
      ≡ met o (place (own + rows o) C (at + length (bodies o v)) B)
  walk_object_lem (leaf l d) v deep parent own at C B g =
      walk_leaf_lem l d v deep parent own at C B (good_leaf v deep l d g)
      ∙ ap (λ m. met (leaf l d) (place m C (at + length (leaf_words v l d)) B)) (sym (add-one own))
  walk_object_lem (group os d) v zero parent own at C B g = absurd (no_group v os d g)
  walk_object_lem (group os d) v (suc deep) parent own at C B g =
      let b = good_group v deep os d g in
      let own-good : (group_own v).Good (length (list_of os), d) = (b.0.1.0, b.1) in
      let gw = group_words v (length (list_of os)) d in
      let m = walk_many_lem os v deep own (suc own) at C (gw ++ B) b.0.1.1 in
      ap (λ w. onward w (λ (xs, e) q. met (group xs e) q))
      (group_met v (length (list_of os)) d own-good (λ r. walk_object v deep own r) (list_of os) parent (suc own) (suc own + rows_all os) at (contents_all os v own (suc own) at ++ C) C (bodies_all os v) B m)
      ∙ ap (λ xs. met (group xs d) (place (suc own + rows_all os) C (at + length (bodies_all os v) + length gw) B)) (objects-of_list os)
      ∙ ap₂ (λ m k. met (group os d) (place m C k B)) (next_row_lem own (rows_all os)) (next_word at (bodies_all os v) gw)

  pub walk_many_lem : (os : Objects) (v deep parent own at : ℕ) (C B : List ℕ) → AllGood v deep os
      → walk_many (length (list_of os)) (λ r. walk_object v deep parent r) (place own (contents_all os v parent own at ++ C) at (bodies_all os v ++ B))
      ≡ met (list_of os) (place (own + rows_all os) C (at + length (bodies_all os v)) B)
  walk_many_lem none v deep parent own at C B g = ap₂ (λ m k. met [] (place m C k B)) (sym (Nat.add-zero own)) (sym (Nat.add-zero at))
  walk_many_lem (more o os) v deep parent own at C B g =
      let cs = contents_all os v parent (own + rows o) (at + length (bodies o v)) in
      ap₂ (λ c b. onward (walk_object v deep parent (place own c at b)) (λ x q. onward (walk_many (length (list_of os)) (λ r. walk_object v deep parent r) q) (λ xs r. met (x ∷ xs) r)))
      (append_assoc (contents o v parent own at) cs C) (append_assoc (bodies o v) (bodies_all os v) B)
      ∙ ap (λ w. onward w (λ x q. onward (walk_many (length (list_of os)) (λ r. walk_object v deep parent r) q) (λ xs r. met (x ∷ xs) r)))
      (walk_object_lem o v deep parent own at (cs ++ C) (bodies_all os v ++ B) g.0)
      ∙ ap (λ w. onward w (λ xs r. met (o ∷ xs) r)) (walk_many_lem os v deep parent (own + rows o) (at + length (bodies o v)) C B g.1)
      ∙ ap₂ (λ m k. met (o ∷ list_of os) (place m C k B)) (Nat.add_assoc own (rows o) (rows_all os)) (next_word at (bodies o v) (bodies_all os v))
