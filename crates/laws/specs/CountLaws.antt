-- An acceptable file has at least as many bytes as its drawing has rows, and as it has words, so a table has limits too.
use Rattle.std.proofs.Common.{◌∙◌, ap, arith, length-append}
use Rattle.std.specs.Prelude.{ℕ, zero, suc, ◌*◌, ◌-◌, ◌≤◌, List, ◌++◌, length}
use Prim.Native.Char.{code}
use Rattle.format.specs.Digits.{digits}
use Rattle.format.specs.Layout.{repeat}
use Rattle.drawing.specs.Limits.{length_limit, depth_limit}
use Rattle.drawing.specs.String.{String}
use Rattle.drawing.specs.Settings.{settings}
use Rattle.drawing.specs.Object.{Object, leaf, group, Objects, none, more, list_of}
use Rattle.drawing.specs.ObjectId.{leaf_letter}
use Rattle.drawing.specs.LeafLayout.{leaf_body, object_end}
use Rattle.drawing.specs.ObjectLayout.{object, group_body}
use Rattle.drawing.specs.Drawing.{Drawing, outer, file_of, Acceptable}
use Rattle.drawing.specs.Table.{group_own, group_words, rows, rows_all, bodies, bodies_all, head_words, IsTable}
use Rattle.drawing.specs.Answers.{rows_of, word_count}
use Rattle.laws.specs.SizeLaws.{words-few}
use Rattle.laws.specs.ObjectBytes.{bytes_of, many-bytes, leaf_bytes, group_led, group_body-bytes, file-bytes}
use Rattle.laws.specs.ObjectGood.{leaf_on_lem, good_leaf, good_group, no_group}
use Rattle.laws.specs.FileGood.{file-parts}
use Rattle.laws.specs.WalkComplete.{AllGood}
use Rattle.laws.specs.OrderLaws.{contents-length}

-- So many rows and words are no more than these bytes.
abbrev Few : (rows : ℕ) (words bytes : List ℕ) → Type 0
Few rows words bytes = (rows ≤ length bytes) × (length words ≤ length bytes)

-- A group's row and its own words, beside those of its members: the four bytes of its count hold its count word, and have room for the row.
few_group : (v deep : ℕ) (os : Objects) (d : String) → Few (rows_all os) (bodies_all os v) (bytes_of (repeat 0 (object v deep)) (list_of os))
    → Few (rows (group os d)) (bodies (group os d) v) (bytes_of (group_body v (object v deep)) (os, d))
few_group v deep os d few =
    let own = words-few (group_own v) (length (list_of os), d) in
    let bytes = ap length (group_body-bytes v deep os d 0) in
    let split = length-append (bytes_of (repeat 0 (object v deep)) (list_of os)) (bytes_of (object_end v) d) in
    let words = length-append (bodies_all os v) (group_words v (length (list_of os)) d) in
    (omega arith, omega arith)

mutual
  pub object-counts : (v deep : ℕ) (o : Object) → (object v deep).Good o → (rows o ≤ length (bytes_of (object v deep) o)) × (length (bodies o v) ≤ length (bytes_of (object v deep) o))
  object-counts v deep (leaf l d) g =
      let body = words-few (leaf_body v (leaf_letter l)) (l, d) in
      let bytes = ap length (leaf_bytes v deep l d (leaf_on_lem v l d (good_leaf v deep l d g))) in
      (omega arith, omega arith)
  object-counts v zero (group os d) g = absurd (no_group v os d g)
  object-counts v (suc deep) (group os d) g =
      let few = few_group v deep os d (all-counts v deep os (good_group v deep os d g).0.1.1) in
      let bytes = ap length (group_led v deep os d) in
      (omega arith, omega arith)

  all-counts : (v deep : ℕ) (os : Objects) → AllGood v deep os → Few (rows_all os) (bodies_all os v) (bytes_of (repeat 0 (object v deep)) (list_of os))
  all-counts v deep none g = (omega arith, omega arith)
  all-counts v deep (more o os) g =
      let here = object-counts v deep o g.0 in
      let others = all-counts v deep os g.1 in
      let bytes = ap length (many-bytes (object v deep) 0 0 o (list_of os)) ∙ length-append (bytes_of (object v deep) o) (bytes_of (repeat 0 (object v deep)) (list_of os)) in
      let words = length-append (bodies o v) (bodies_all os v) in
      (omega arith, omega arith)

-- The same of a group, behind its id.
pub group_counts : (v deep : ℕ) (os : Objects) (d : String) → (group_body v (object v deep)).Good (os, d)
    → (rows (group os d) ≤ length (bytes_of (group_body v (object v deep)) (os, d))) × (length (bodies (group os d) v) ≤ length (bytes_of (group_body v (object v deep)) (os, d)))
group_counts v deep os d g = few_group v deep os d (all-counts v deep os g.0.1.1)

pub file-counts : (d : Drawing) → Acceptable d → (rows_of d ≤ length (file_of d)) × (word_count d ≤ length (file_of d))
file-counts d a =
    let v = d.version in
    let few = group_counts v (depth_limit - 1) d.members d.description (file-parts d a.good).outer in
    let head = words-few (settings v) d.settings in
    let bytes = ap length (file-bytes d) in
    let split = length-append (bytes_of (settings v) d.settings) (digits 256 2 (code "G") ++ bytes_of (group_body v (object v (depth_limit - 1))) (d.members, d.description)) in
    let words = length-append (head_words d) (bodies (outer d) v) in
    (omega arith, omega arith)

pub table_limits : (c bs : List ℕ) (d : Drawing) → IsTable c bs d → (length c ≤ 4 * length_limit) × (length bs ≤ length_limit)
table_limits c bs d t =
    let few = file-counts d t.acceptable in
    let rows = ap length t.contents-are ∙ contents-length (outer d) d.version 0 0 (length (head_words d)) in
    let words = ap length t.bodies-are in
    (omega (arith, t.acceptable.short), omega (arith, t.acceptable.short))
