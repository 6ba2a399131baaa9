-- The words of a file's fields are those of its drawing's table, one for each id, and four of the head that the table does without.
use Rattle.std.specs.Prelude.{◌≡◌, refl, ℕ, zero, suc, ◌+◌, ◌-◌, List, [], ◌∷◌, ◌++◌, length}
use Rattle.std.proofs.Common.{sym, ap, ◌∙◌, arith, length-append}
use Prim.Native.Char.{code}
use Rattle.format.specs.FixedCodec.{spell_fixed}
use Rattle.format.specs.Format.{fields}
use Rattle.format.specs.Layout.{Layout, repeat, either, ◌&◌}
use Rattle.drawing.specs.Codecs.{word_fields}
use Rattle.drawing.specs.Limits.{depth_limit}
use Rattle.drawing.specs.String.{String}
use Rattle.drawing.specs.Settings.{settings}
use Rattle.drawing.specs.Object.{Leaf, Object, leaf, group, Objects, none, more, list_of}
use Rattle.drawing.specs.ObjectId.{leaf_letter}
use Rattle.drawing.specs.LeafLayout.{leaf_body, object_end}
use Rattle.drawing.proofs.ObjectLaws.{group_no_leaf}
use Rattle.drawing.specs.ObjectLayout.{object, group_body, leaf_object, group_object}
use Rattle.drawing.specs.Drawing.{Drawing, outer, outer_group, file}
use Rattle.drawing.specs.Table.{words_of, group_words, rows, rows_all, bodies, bodies_all, head_words}
use Rattle.drawing.specs.Answers.{rows_of, word_count}
use Rattle.laws.specs.ObjectBytes.{spelled-append}
use Rattle.laws.specs.ObjectGood.{leaf_on_lem, good_leaf, good_group, no_group}
use Rattle.laws.specs.FileGood.{file-parts}
use Rattle.laws.specs.WalkComplete.{AllGood}

leaf_words_lem : (v deep : ℕ) (l : Leaf) (d : String) → (object v deep).Good (leaf l d) → length (words_of (object v deep) (leaf l d)) ≡ suc (length (bodies (leaf l d) v))
leaf_words_lem v zero l d good = refl
leaf_words_lem v (suc deep) l d good =
    ap (λ t. suc (length (words_of (either t (leaf_object v (leaf_letter l)) (group_object v (object v deep))) (leaf l d)))) (leaf_on_lem v l d (good_leaf v (suc deep) l d good))

-- Behind a group's id: its count, its members and its end.
group_body_lem : (v deep n : ℕ) (os : Objects) (d : String) → length (words_of (group_body v (object v deep)) (os, d)) ≡ suc (length (words_of (repeat n (object v deep)) (list_of os)) + length (words_of (object_end v) d))
group_body_lem v deep n os d =
    ap (λ l. suc (length l)) (spelled-append (spell_fixed word_fields) (fields (repeat n (object v deep)).format (list_of os)) (fields (object_end v).format d))
    ∙ ap suc (length-append (words_of (repeat n (object v deep)) (list_of os)) (words_of (object_end v) d))

group_words_lem : (v deep : ℕ) (os : Objects) (d : String) → length (words_of (object v (suc deep)) (group os d)) ≡ suc (length (words_of (group_body v (object v deep)) (os, d)))
group_words_lem v deep os d =
    ap (λ t. suc (length (words_of (either t (leaf_object v (code "G")) (group_object v (object v deep))) (group os d)))) (group_no_leaf v)

own_words_lem : (v n : ℕ) (d : String) → length (group_words v n d) ≡ suc (length (words_of (object_end v) d))
own_words_lem v n d = refl

-- A group's words, from those of its members.
grouped : (v deep : ℕ) (os : Objects) (d : String) → length (words_of (repeat 0 (object v deep)) (list_of os)) ≡ rows_all os + length (bodies_all os v)
    → length (words_of (group_body v (object v deep)) (os, d)) + 1 ≡ rows (group os d) + length (bodies (group os d) v)
grouped v deep os d members =
    let body = group_body_lem v deep 0 os d in
    let own = own_words_lem v (length (list_of os)) d in
    let all = length-append (bodies_all os v) (group_words v (length (list_of os)) d) in
    omega arith

mutual
  object-words : (v deep : ℕ) (o : Object) → (object v deep).Good o → length (words_of (object v deep) o) ≡ rows o + length (bodies o v)
  object-words v deep (leaf l d) good = let one = leaf_words_lem v deep l d good in omega arith
  object-words v zero (group os d) good = absurd (no_group v os d good)
  object-words v (suc deep) (group os d) good =
      let body = grouped v deep os d (all_words v deep os (good_group v deep os d good).0.1.1) in
      let led = group_words_lem v deep os d in
      omega arith

  all_words : (v deep : ℕ) (os : Objects) → AllGood v deep os → length (words_of (repeat 0 (object v deep)) (list_of os)) ≡ rows_all os + length (bodies_all os v)
  all_words v deep none good = refl
  all_words v deep (more o os) good =
      let here = object-words v deep o good.0 in
      let others = all_words v deep os good.1 in
      let spelled = ap length (spelled-append (spell_fixed word_fields) (fields (object v deep).format o) (fields (repeat 0 (object v deep)).format (list_of os))) ∙ length-append (words_of (object v deep) o) (words_of (repeat 0 (object v deep)) (list_of os)) in
      let words = length-append (bodies o v) (bodies_all os v) in
      omega arith

head-led : (d : Drawing) → length (words_of file d) ≡ suc (suc (suc (suc (suc (length (words_of (settings d.version & outer_group d.version) (d.settings, (d.members, d.description))))))))
head-led d = refl

outer-led : (v : ℕ) (os : Objects) (d : String) → length (words_of (outer_group v) (os, d)) ≡ suc (length (words_of (group_body v (object v (depth_limit - 1))) (os, d)))
outer-led v os d = refl

pub file-words : (d : Drawing) → file.Good d → length (words_of file d) ≡ word_count d + rows_of d + 4
file-words d good =
    let v = d.version in
    let body = grouped v (depth_limit - 1) d.members d.description (all_words v (depth_limit - 1) d.members (file-parts d good).outer.0.1.1) in
    let spelled = ap length (spelled-append (spell_fixed word_fields) (fields (settings v).format d.settings) (fields (outer_group v).format (d.members, d.description))) ∙ length-append (words_of (settings v) d.settings) (words_of (outer_group v) (d.members, d.description)) in
    let words = length-append (head_words d) (bodies (outer d) v) in
    let all = head-led d in
    let led = outer-led v d.members d.description in
    omega arith
