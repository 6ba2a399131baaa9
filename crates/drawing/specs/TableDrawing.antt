-- The drawing of a table: contents and bodies are walked side by side, and every row is compared with what the walk has met.
-- TableLaws says which drawing this is: the one good drawing with these contents and bodies, where there is one.
use Rattle.std.specs.Prelude.{Bool, true, false, cond, ◌&&◌, ℕ, zero, suc, ◌+◌, ◌-◌, List, [], ◌∷◌, length, get_or, eqb, leb}
use Rattle.std.proofs.Math.Option.{Option, none, some}
use Prim.Native.Char.{code}
use Rattle.format.specs.Codec.{Outcome, found, refused}
use Rattle.format.specs.FixedReading.{split_at}
use Rattle.drawing.specs.Reading as Reading
use Rattle.format.specs.Layout.{Layout, field, ◌▸◌}
use Rattle.format.specs.Parse.{parse}
use Rattle.drawing.specs.Limits.{last_minor, length_limit, depth_limit}
use Rattle.drawing.specs.Fields.{integer_in}
use Rattle.drawing.specs.String.{String, equal}
use Rattle.drawing.specs.Settings.{Settings, settings}
use Rattle.drawing.specs.Object.{Object, leaf, group, Objects, of_list}
use Rattle.drawing.specs.LeafLayout.{is_leaf, leaf_body}
use Rattle.drawing.specs.Drawing.{Drawing, file_of}
use Rattle.drawing.specs.Table.{group_kind, path_kind, text_kind, bitmap_kind, text_path_kind, group_own, row, row_width, kind_in, start_in}

-- Where a walk stands: the next row's number and the contents from there on, the next word's and the bodies from there on.
pub record Place : Type 0 where
  pub row : ℕ
  pub contents : List ℕ
  pub at : ℕ
  pub bodies : List ℕ

pub data Walk (A : Type 0) : Type 0 where
  met : A → Place → Walk A
  lost : Walk A

abbrev pub onward : {A B : Type 0} → Walk A → (A → Place → Walk B) → Walk B
onward (met a p) f = f a p
onward lost f = lost

abbrev pub provided : {A : Type 0} → Bool → Walk A → Walk A
provided true w = w
provided false w = lost

-- The next row's words, with the place behind them.
abbrev pub row_from : Place → Option (List ℕ × List ℕ) → Walk (List ℕ)
row_from p none = lost
row_from p (some parts) = met parts.0 (record { row = suc p.row; contents = parts.1; at = p.at; bodies = p.bodies })

abbrev pub next_row : Place → Walk (List ℕ)
next_row p = row_from p (split_at row_width p.contents)

-- A body that was parsed, with the row that its object must have.
abbrev pub body_from : {A : Type 0} → (kind parent : ℕ) (words : List ℕ) → Place → Outcome A → Walk A
body_from kind parent words p (refused n at) = lost
body_from kind parent words p (found a rest) =
    let used = length p.bodies - length rest in
    provided (equal words (row kind parent p.at used))
    (met a (record { row = p.row; contents = p.contents; at = p.at + used; bodies = rest }))

abbrev pub body : {A : Type 0} → Layout A → (kind parent : ℕ) (words : List ℕ) → Place → Walk A
body L kind parent words p = body_from kind parent words p (parse Reading.words L p.bodies)

abbrev pub walk_many : ℕ → (Place → Walk Object) → Place → Walk (List Object)
walk_many zero each p = met [] p
walk_many (suc n) each p = onward (each p) (λ o q. onward (walk_many n each q) (λ os r. met (o ∷ os) r))

-- A group whose row was met: its objects stand first, as many as the count in its body, which begins where its row says.
abbrev pub walk_group : ℕ → (Place → Walk Object) → (parent : ℕ) (words : List ℕ) → Place → Walk (Objects × String)
walk_group v each parent words p =
    let n = get_or p.bodies (start_in words 0 - p.at) 0 in
    onward (walk_many n each p) (λ os q.
    onward (body (group_own v) group_kind parent words q) (λ own r.
    provided (eqb own.0 n) (met (of_list os, own.1) r)))

-- The id char of the leaf with this kind in its row; 0, which is no id, for other kinds.
abbrev pub letter_of : ℕ → ℕ
letter_of kind =
    cond (eqb kind path_kind) (code "P")
    (cond (eqb kind text_kind) (code "T") (cond (eqb kind bitmap_kind) (code "I") (cond (eqb kind text_path_kind) (code "X") 0)))

abbrev pub walk_leaf : ℕ → (parent : ℕ) (words : List ℕ) → Place → Walk Object
walk_leaf v parent words p =
    let kind = kind_in words 0 in
    provided (is_leaf v (letter_of kind))
    (onward (body (leaf_body v (letter_of kind)) kind parent words p) (λ (l, d) q. met (leaf l d) q))

abbrev pub walk_kind : (is_group : Bool) → ℕ → (Place → Walk Object) → (parent : ℕ) (words : List ℕ) → Place → Walk Object
walk_kind true v each parent words p = onward (walk_group v each parent words p) (λ (os, d) q. met (group os d) q)
walk_kind false v each parent words p = walk_leaf v parent words p

-- An object, in which groups nest at most so deep.
abbrev pub walk_object : ℕ → ℕ → (parent : ℕ) → Place → Walk Object
walk_object v zero parent p = onward (next_row p) (λ words q. walk_leaf v parent words q)
walk_object v (suc deep) parent p =
    onward (next_row p) (λ words q. walk_kind (eqb (kind_in words 0) group_kind) v (λ r. walk_object v deep p.row r) parent words q)

abbrev pub table_head : Layout (ℕ × Settings)
table_head = field (integer_in 0 last_minor) ▸ settings

-- The outer group, behind the head.
abbrev pub walk_outer : ℕ → Place → Walk (Objects × String)
walk_outer v p = onward (next_row p) (λ words q. walk_group v (λ r. walk_object v (depth_limit - 1) p.row r) 0 words q)

-- The table was walked to its end, and the drawing's file is not too long.
abbrev pub ended : Drawing → Place → Bool
ended d p = equal p.contents [] && equal p.bodies [] && leb (length (file_of d)) length_limit

abbrev pub whole_table : ℕ → Settings → Walk (Objects × String) → Option Drawing
whole_table v s lost = none
whole_table v s (met t p) =
    let d : Drawing = record { version = v; settings = s; members = t.0; description = t.1 } in
    cond (ended d p) (some d) none

abbrev pub behind_head : List ℕ → ℕ → Outcome (ℕ × Settings) → Option Drawing
behind_head contents total (refused n at) = none
behind_head contents total (found h rest) =
    whole_table h.0 h.1
    (walk_outer h.0 (record { row = 0; contents = contents; at = total - length rest; bodies = rest }))

abbrev pub drawing_of_table : List ℕ → List ℕ → Option Drawing
drawing_of_table contents bodies = behind_head contents (length bodies) (parse Reading.words table_head bodies)
