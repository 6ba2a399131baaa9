-- What is walked over is a good object's part of a table.
use Rattle.std.specs.Prelude.{◌≡◌, refl, Bool, true, false, ℕ, zero, suc, ◌+◌, ◌-◌, ◌^◌, List, ◌∷◌, ◌++◌, length, get_or, eqb}
use Rattle.std.proofs.Common.{sym, ap, ◌∙◌, subst, subst₂, eqb-true}
use Rattle.std.proofs.Math.Path.{subst₃}
use Rattle.std.proofs.Math.Nat as Nat
use Rattle.format.specs.AlternativeLaws.{chosen_tells}
use Rattle.format.specs.Digits.{Below}
use Rattle.format.specs.Kind.{Allowed}
use Rattle.format.specs.Format.{Each}
use Rattle.format.specs.FormatLaws.{each-length}
use Rattle.drawing.specs.Fields.{member_count}
use Rattle.drawing.specs.String.{String}
use Rattle.drawing.specs.Object.{Leaf, Object, leaf, group, Objects, list_of, of_list}
use Rattle.drawing.specs.ObjectId.{leaf_letter}
use Rattle.drawing.specs.LeafLayout.{path_case, other_cases, is_leaf, leaf_body}
use Rattle.drawing.specs.ObjectLayout.{object, group_body}
use Rattle.drawing.specs.ObjectLaws.{list_of_list}
use Rattle.laws.specs.WalkComplete.{AllGood}
use Rattle.laws.specs.ObjectGood.{leaf_good, group_good}
use Rattle.drawing.specs.Table as Table
use Rattle.drawing.specs.Table.{words_of, leaf_kind, group_kind, group_own, group_words, rows, rows_all, bodies, bodies_all, row, kind_in, start_in, contents, contents_all}
use Rattle.drawing.specs.TableDrawing.{Place, Walk, met, onward, provided, next_row, body, walk_many, walk_group, letter_of, walk_leaf, walk_kind, walk_object}
use Rattle.drawing.specs.KindLaws.{kind_by_letter, leaf_kind_lem}
use Rattle.drawing.proofs.KindLaws.{letter_kind}
use Rattle.laws.specs.WalkLaws.{Holding, holding_onward, holding_provided, Over, over-both, over_below, RowMet, next_row_holds, BodyMet, body_holds, leaf_over, group_over}

-- ---- what is walked over is a good drawing's table

pub record ObjectMet (v deep parent : ℕ) (p : Place) (o : Object) (q : Place) : Type 0 where
  pub good : (object v deep).Good o
  pub over : Over p q (rows o) (contents o v parent p.row p.at) (bodies o v)

pub record ManyMet (v deep parent n : ℕ) (p : Place) (os : List Object) (q : Place) : Type 0 where
  pub good : Each {S = Unit {0}} (λ s. (object v deep).Good) (λ s a. s) n tt os
  pub over : Over p q (rows_all (of_list os)) (contents_all (of_list os) v parent p.row p.at) (bodies_all (of_list os) v)

many_more : (v deep parent n : ℕ) (p q r : Place) (o : Object) (os : List Object) → ObjectMet v deep parent p o q → ManyMet v deep parent n q os r → ManyMet v deep parent (suc n) p (o ∷ os) r
many_more v deep parent n p q r o os g h =
    record {
      good = (g.good, h.good);
      over =
          subst₂ (λ own at. Over p r (rows o + rows_all (of_list os)) (contents o v parent p.row p.at ++ contents_all (of_list os) v parent own at) (bodies o v ++ bodies_all (of_list os) v))
          g.over.row g.over.at
          (over-both p q r (rows o) (rows_all (of_list os)) (contents o v parent p.row p.at) (contents_all (of_list os) v parent q.row q.at) (bodies o v) (bodies_all (of_list os) v) g.over h.over);
    }

many_holds : (v deep parent : ℕ) (each : Place → Walk Object) → ((p : Place) → Below (2 ^ 32) p.bodies → Holding (ObjectMet v deep parent p) (each p))
    → (n : ℕ) (p : Place) → Below (2 ^ 32) p.bodies → Holding (ManyMet v deep parent n p) (walk_many n each p)
many_holds v deep parent each h zero p b =
    record { good = tt; over = record { row = sym (Nat.add-zero p.row); contents = refl; at = sym (Nat.add-zero p.at); bodies = refl } }
many_holds v deep parent each h (suc n) p b =
    holding_onward (ObjectMet v deep parent p) (ManyMet v deep parent (suc n) p) (each p) (λ o q. onward (walk_many n each q) (λ os r. met (o ∷ os) r)) (h p b)
    (λ o q g.
    holding_onward (ManyMet v deep parent n q) (ManyMet v deep parent (suc n) p) (walk_many n each q) (λ os r. met (o ∷ os) r)
    (many_holds v deep parent each h n q (over_below p q (rows o) (contents o v parent p.row p.at) (bodies o v) g.over b))
    (λ os r m. many_more v deep parent n p q r o os g m))

pub record GroupMet (v deep parent : ℕ) (p : Place) (t : Objects × String) (q : Place) : Type 0 where
  pub good : (group_body v (object v deep)).Good t
  pub over : Over p q (rows (group t.0 t.1)) (contents (group t.0 t.1) v parent p.row p.at) (bodies (group t.0 t.1) v)

-- Good elements, counted by their list.
each_list : (v deep n : ℕ) (os : List Object) → Each {S = Unit {0}} (λ s. (object v deep).Good) (λ s a. s) n tt os → AllGood v deep (of_list os)
each_list v deep n os g =
    let long : length os ≡ n = each-length {S = Unit {0}} (λ s. (object v deep).Good) (λ s a. s) n tt os g in
    subst (λ l. Each {S = Unit {0}} (λ s. (object v deep).Good) (λ s a. s) (length l) tt l) (sym (list_of_list os))
    (subst (λ m. Each {S = Unit {0}} (λ s. (object v deep).Good) (λ s a. s) m tt os) (sym long) g)

-- A group's members and its own body, behind its row.
group_of : (v deep parent n : ℕ) (row : List ℕ) (p q s r : Place) (os : List Object) (own : ℕ × String)
    → RowMet p row q → ManyMet v deep p.row n q os s → BodyMet (group_own v) group_kind parent row s own r → own.0 ≡ n → GroupMet v deep parent p (of_list os, own.1) r
group_of v deep parent n row p q s r os own h m b e =
    let long : length os ≡ n = each-length {S = Unit {0}} (λ s. (object v deep).Good) (λ s a. s) n tt os m.good in
    let listed : length (list_of (of_list os)) ≡ own.0 = ap length (list_of_list os) ∙ long ∙ sym e in
    let all = group_over (group_own v) group_kind parent row p q s r own (rows_all (of_list os)) (contents_all (of_list os) v p.row q.row q.at) (bodies_all (of_list os) v) h m.over b in
    record {
      good = ((ap of_list (list_of_list os), (subst (Allowed member_count) (sym listed) b.good.0, each_list v deep n os m.good)), b.good.1);
      over =
          subst₃ (λ k own' at.
          Over p r (suc (rows_all (of_list os)))
          (Table.row group_kind parent (p.at + length (bodies_all (of_list os) v)) (length (group_words v k own.1)) ++ contents_all (of_list os) v p.row own' at)
          (bodies_all (of_list os) v ++ group_words v k own.1))
          (sym listed) h.next h.at all;
    }

-- The outer walk of a group, behind a row that was met.
pub group_holds : (v deep parent : ℕ) (each : Place → Walk Object) (p q : Place) (row : List ℕ) → RowMet p row q
    → ((r : Place) → Below (2 ^ 32) r.bodies → Holding (ObjectMet v deep p.row r) (each r))
    → Below (2 ^ 32) q.bodies → Holding (GroupMet v deep parent p) (walk_group v each parent row q)
group_holds v deep parent each p q row h e b =
    let n = get_or q.bodies (start_in row 0 - q.at) 0 in
    holding_onward (ManyMet v deep p.row n q) (GroupMet v deep parent p) (walk_many n each q)
    (λ os s. onward (body (group_own v) group_kind parent row s) (λ own r. provided (eqb own.0 n) (met (of_list os, own.1) r)))
    (many_holds v deep p.row each e n q b)
    (λ os s m.
    holding_onward (BodyMet (group_own v) group_kind parent row s) (GroupMet v deep parent p) (body (group_own v) group_kind parent row s)
    (λ own r. provided (eqb own.0 n) (met (of_list os, own.1) r))
    (body_holds (group_own v) group_kind parent row s (over_below q s (rows_all (of_list os)) (contents_all (of_list os) v p.row q.row q.at) (bodies_all (of_list os) v) m.over b))
    (λ own r w.
    holding_provided (GroupMet v deep parent p) (eqb own.0 n) (met (of_list os, own.1) r)
    (λ t. group_of v deep parent n row p q s r os own h m w (eqb-true own.0 n t))))

-- ---- leaves

leaf_of_lem : (v deep parent k : ℕ) (words : List ℕ) (p q r : Place) (t : Leaf × String) → is_leaf v (letter_of k) ≡ true → RowMet p words q
    → BodyMet (leaf_body v (letter_of k)) k parent words q t r → ObjectMet v deep parent p (leaf t.0 t.1) r
leaf_of_lem v deep parent k words p q r t on h w =
    let tells : leaf_letter t.0 ≡ letter_of k = chosen_tells (path_case v) (other_cases v) (letter_of k) t.0 on w.good.0 in
    let kind-is : k ≡ leaf_kind t.0 = sym (letter_kind v k on) ∙ ap kind_by_letter (sym tells) ∙ leaf_kind_lem t.0 in
    record {
      good = leaf_good v deep t.0 t.1 (subst (λ c. (leaf_body v c).Good t) (sym tells) w.good);
      over =
          subst₂ (λ kind c. Over p r 1 (row kind parent p.at (length (words_of (leaf_body v c) t))) (words_of (leaf_body v c) t))
          kind-is (sym tells) (leaf_over (leaf_body v (letter_of k)) k parent words p q r t h w);
    }

leaf_holds : (v deep parent : ℕ) (p q : Place) (words : List ℕ) → RowMet p words q → Below (2 ^ 32) q.bodies
    → Holding (ObjectMet v deep parent p) (walk_leaf v parent words q)
leaf_holds v deep parent p q words h b =
    let k = kind_in words 0 in
    holding_provided (ObjectMet v deep parent p) (is_leaf v (letter_of k))
    (onward (body (leaf_body v (letter_of k)) k parent words q) (λ (l, d) r. met (leaf l d) r))
    (λ on.
    holding_onward (BodyMet (leaf_body v (letter_of k)) k parent words q) (ObjectMet v deep parent p) (body (leaf_body v (letter_of k)) k parent words q) (λ (l, d) r. met (leaf l d) r)
    (body_holds (leaf_body v (letter_of k)) k parent words q b)
    (λ x r w. leaf_of_lem v deep parent k words p q r x on h w))

pub row_below : (p q : Place) (row : List ℕ) → RowMet p row q → Below (2 ^ 32) p.bodies → Below (2 ^ 32) q.bodies
row_below p q row h b = rw h.bodies at b

kind_holds : (v deep parent : ℕ) (p q : Place) (row : List ℕ) (is_group : Bool) → RowMet p row q → Below (2 ^ 32) q.bodies
    → ((r : Place) → Below (2 ^ 32) r.bodies → Holding (ObjectMet v deep p.row r) (walk_object v deep p.row r))
    → Holding (ObjectMet v (suc deep) parent p) (walk_kind is_group v (λ r. walk_object v deep p.row r) parent row q)
kind_holds v deep parent p q row true h b e =
    holding_onward (GroupMet v deep parent p) (ObjectMet v (suc deep) parent p) (walk_group v (λ r. walk_object v deep p.row r) parent row q) (λ (os, d) r. met (group os d) r)
    (group_holds v deep parent (λ r. walk_object v deep p.row r) p q row h e b)
    (λ t r g. record { good = group_good v deep t.0 t.1 g.good; over = g.over })
kind_holds v deep parent p q row false h b e = leaf_holds v (suc deep) parent p q row h b

pub object_holds : (v deep parent : ℕ) (p : Place) → Below (2 ^ 32) p.bodies → Holding (ObjectMet v deep parent p) (walk_object v deep parent p)
object_holds v zero parent p b =
    holding_onward (RowMet p) (ObjectMet v zero parent p) (next_row p) (λ words q. walk_leaf v parent words q) (next_row_holds p)
    (λ words q h. leaf_holds v zero parent p q words h (row_below p q words h b))
object_holds v (suc deep) parent p b =
    holding_onward (RowMet p) (ObjectMet v (suc deep) parent p) (next_row p) (λ words q. walk_kind (eqb (kind_in words 0) group_kind) v (λ r. walk_object v deep p.row r) parent words q) (next_row_holds p)
    (λ words q h. kind_holds v deep parent p q words (eqb (kind_in words 0) group_kind) h (row_below p q words h b) (λ r c. object_holds v deep p.row r c))
