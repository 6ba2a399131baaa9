-- What is left behind an object's id, and behind each part of the head.
use Rattle.std.specs.Prelude.{◌≡◌, Bool, true, false, cond, ◌&&◌, ◌||◌, ℕ, zero, suc, ◌+◌, ◌-◌, ◌%◌, ◌^◌, ◌<◌, ◌≤◌, List, [], ◌∷◌, eqb, leb, ltb, length, get_or, set}
use Rattle.std.proofs.Math.Path.{refl, ap, fun_ext}
use Rattle.std.proofs.Common.{sym, ap₂, ◌∙◌, arith, length-set, eqb-true, eq-eqb, ne_eqb, lt-ltb, le-ltb, ltb-true, ltb-false}
use Rattle.std.proofs.lemmas.Bool.{false≢true}
use Prim.Native.Char.{code}
use Rattle.std.proofs.Math.Option.{Option, some}
use Rattle.format.specs.Kind.{Kind}
use Rattle.format.specs.Script.{Script, end, ask}
use Rattle.format.specs.Format.{script}
use Rattle.format.specs.Layout.{Layout, constant, repeat, ◌&◌}
use Rattle.format.specs.Alternative.{Alternative, chosen}
use Rattle.format.specs.Choice.{alternative}
use Rattle.format.specs.Pass.{◌⟫◌, done}
use Rattle.format.specs.ParsingLaws.{followed}
use Rattle.drawing.specs.Limits.{depth_limit}
use Rattle.drawing.specs.Fields.{object_fault, object_id, member_count, magic, version_length, version_chars, version_zero, char_where}
use Rattle.drawing.specs.FieldLaws.{version-length-only}
use Rattle.drawing.specs.Settings.{settings}
use Rattle.drawing.specs.Path.{path}
use Rattle.drawing.specs.Text.{text}
use Rattle.drawing.specs.Bitmap.{bitmap}
use Rattle.drawing.specs.TextPath.{text_path}
use Rattle.drawing.specs.Object.{Leaf, of_list}
use Rattle.drawing.specs.Object as O
use Rattle.drawing.specs.ObjectId.{leaf_letter, path_of, text_of, bitmap_of, text_path_of}
use Rattle.drawing.specs.LeafLayout.{path_case, text_case, bitmap_case, text_path_case, is_leaf, leaf_body, object_end}
use Rattle.drawing.specs.ObjectLayout.{object}
use Rattle.drawing.specs.Drawing.{Drawing, version, drawing_from, file, outer_group}
use Rattle.drawing.specs.Table.{rows, rows_all}
use Rattle.pieces.specs.declared.Inside.{Inside}
use Rattle.pieces.specs.Going.{led}
use Rattle.pieces.specs.Parts.{end_on, part_then, parts_on, inside, groups, opening, head_on, outer_on, Standing, rest_at}
use Rattle.pieces.specs.PartLaws.{with_parts, next_part}
use Rattle.pieces.specs.LeafLaws.{arrow-path, marked-path, text-parts, along_parts, bitmap-parts}
use Rattle.pieces.specs.GroupLaws.{group_ends, object_next, object-alone, object_nested, count-opens, group_opens, outer-opens, groups_agree}

-- ---- leaves

-- The number of a leaf's parts, by its letter.
abbrev pub leaf_parts : (version letter : ℕ) → ℕ
leaf_parts v c = cond (eqb c 84) 8962 (cond (eqb c 73) 413 (cond (eqb c 88) 239676 (cond (ltb v 1) 104776735651 2619425173151)))

path_inside : (v : ℕ) (s : Inside) → path v ⟫ end_on v ≡ inside v (with_parts s (cond (ltb v 1) 104776735651 2619425173151))
path_inside v s = by (ltb v 1) refl
  where
    by : (b : Bool) → ltb v 1 ≡ b → path v ⟫ end_on v ≡ inside v (with_parts s (cond b 104776735651 2619425173151))
    by true e = arrow-path v s (ltb-true v 1 e)
    by false e = marked-path v s (ltb-false v 1 e)

-- One of four alternatives, and what comes behind it: over variables, since the layouts themselves are too large to compare.
chosen_apart : {B E : Type 0} {tag_of : B → ℕ} (p t i x : Alternative B tag_of) (c : ℕ) (e : Layout E) (K : Script (Unit {0}))
    → (chosen p (t ∷ i ∷ x ∷ []) c & e) ⟫ K
    ≡ cond (t.on && eqb c t.tag) (t.layout ⟫ e ⟫ K) (cond (i.on && eqb c i.tag) (i.layout ⟫ e ⟫ K) (cond (x.on && eqb c x.tag) (x.layout ⟫ e ⟫ K) (p.layout ⟫ e ⟫ K)))
chosen_apart p t i x c e K = refl

same-fields : {A B : Type 0} (tag_of : B → ℕ) (tag : ℕ) (on : Bool) (f : Layout A) (make : A → B) (apart : B → Option A) (same : (a : A) → apart (make a) ≡ some a) (tells : (a : A) → tag_of (make a) ≡ tag) (K : Script (Unit {0}))
    → (alternative {tag_of = tag_of} tag on f make apart same tells).layout ⟫ K ≡ f ⟫ K
same-fields tag_of tag on f make apart same tells K = refl

leaf_apart : (v c : ℕ) → leaf_body v c ⟫ done ≡ cond (eqb c 84) (text v ⟫ end_on v) (cond (eqb c 73) (bitmap ⟫ end_on v) (cond (leb 5 v && eqb c 88) (text_path v ⟫ end_on v) (path v ⟫ end_on v)))
leaf_apart v c =
    chosen_apart (path_case v) (text_case v) bitmap_case (text_path_case v) c (object_end v) done
    ∙ ap (λ X. cond (eqb c 84) X (cond (eqb c 73) (bitmap_case.layout ⟫ end_on v) (cond (leb 5 v && eqb c 88) ((text_path_case v).layout ⟫ end_on v) ((path_case v).layout ⟫ end_on v))))
    (same-fields {B = Leaf} leaf_letter 84 true (text v) O.text text_of (λ x. refl) (λ x. refl) (end_on v))
    ∙ ap (λ X. cond (eqb c 84) (text v ⟫ end_on v) (cond (eqb c 73) X (cond (leb 5 v && eqb c 88) ((text_path_case v).layout ⟫ end_on v) ((path_case v).layout ⟫ end_on v))))
    (same-fields {B = Leaf} leaf_letter 73 true bitmap O.bitmap bitmap_of (λ x. refl) (λ x. refl) (end_on v))
    ∙ ap (λ X. cond (eqb c 84) (text v ⟫ end_on v) (cond (eqb c 73) (bitmap ⟫ end_on v) (cond (leb 5 v && eqb c 88) X ((path_case v).layout ⟫ end_on v))))
    (same-fields {B = Leaf} leaf_letter 88 (leb 5 v) (text_path v) O.text_path text_path_of (λ x. refl) (λ x. refl) (end_on v))
    ∙ ap (λ X. cond (eqb c 84) (text v ⟫ end_on v) (cond (eqb c 73) (bitmap ⟫ end_on v) (cond (leb 5 v && eqb c 88) (text_path v ⟫ end_on v) X)))
    (same-fields {B = Leaf} leaf_letter 80 true (path v) O.path path_of (λ x. refl) (λ x. refl) (end_on v))

-- A leaf's fields are its parts. An X is a leaf from 1.5 on.
pub leaf_inside : (v c : ℕ) (s : Inside) → is_leaf v c ≡ true → leaf_body v c ⟫ done ≡ inside v (with_parts s (leaf_parts v c))
leaf_inside v c s is = leaf_apart v c ∙ by (eqb c 84) (eqb c 73) (eqb c 88) refl (leb 5 v) refl
  where
    by : (t i x : Bool) → eqb c 88 ≡ x → (new : Bool) → leb 5 v ≡ new
        → cond t (text v ⟫ end_on v) (cond i (bitmap ⟫ end_on v) (cond (new && x) (text_path v ⟫ end_on v) (path v ⟫ end_on v)))
        ≡ inside v (with_parts s (cond t 8962 (cond i 413 (cond x 239676 (cond (ltb v 1) 104776735651 2619425173151)))))
    by true i x e new f = text-parts v s
    by false true x e new f = bitmap-parts v s
    by false false false e true f = path_inside v s
    by false false false e false f = path_inside v s
    by false false true e true f = along_parts v s
    by false false true e false f =
        let here : c ≡ 88 = eqb-true c 88 e in
        let no_leaf : is_leaf v c ≡ false = ap (is_leaf v) here ∙ ap (λ b. b && true || false) f in
        absurd (false≢true (sym no_leaf ∙ is))

-- ---- the head

-- The same at another stage, and with other numbers.
abbrev pub staged : Standing → ℕ → Standing
staged s n = record { version = s.version; stage = n; depth = s.depth; members = s.members; rows = s.rows; within = s.within }

abbrev pub known : Standing → ℕ → Standing
known s v = record { version = v; stage = 3; depth = s.depth; members = s.members; rows = s.rows; within = s.within }

abbrev pub counting : Standing → (depth : ℕ) (members : List ℕ) (rows : ℕ) → Standing
counting s d ms r = record { version = s.version; stage = 5; depth = d; members = ms; rows = r; within = s.within }

abbrev pub among : Standing → (depth : ℕ) (members : List ℕ) (rows parts : ℕ) → Standing
among s d ms r p = record { version = s.version; stage = 6; depth = d; members = ms; rows = r; within = with_parts s.within p }

abbrev pub outer_id : Kind
outer_id = char_where (λ c. eqb c (code "G"))

module _ (s : Standing) where
  pub rest-magic : rest_at 0 s ≡ ask magic (λ m. rest_at 1 (staged s 1))
  unfolding rest_at
  rest-magic = refl

  pub rest-length : rest_at 1 s ≡ ask version_length (λ n. rest_at 2 (staged s 2))
  unfolding rest_at
  rest-length = refl

  pub rest-version : rest_at 2 s ≡ ask version_chars (λ c. rest_at 3 (known s (c - version_zero)))
  unfolding rest_at
  rest-version = refl

  pub rest-settings : rest_at 3 s ≡ script (settings s.version).format (λ t. rest_at 4 (staged s 4))
  unfolding rest_at
  rest-settings = refl

  pub rest-outer : rest_at 4 s ≡ ask outer_id (λ c. rest_at 5 (counting s 0 s.members 1))
  unfolding rest_at
  rest-outer = ap (λ X. ask outer_id (λ c. ask member_count X)) (fun_ext (λ n. outer-opens s.version s.members n))

  pub rest-count : s.depth < length s.members → rest_at 5 s ≡ ask member_count (λ n. rest_at 6 (among s (suc s.depth) (set s.members s.depth n) s.rows 0))
  unfolding rest_at inside parts_on part_then
  rest-count there = ap (ask member_count) (fun_ext (λ n. count-opens s.version s.members s.depth s.rows n there))

-- ---- objects

pub none_inside : (v : ℕ) (w : Inside) → w.run ≡ 0 → w.parts % 25 ≡ 0 → w.parts < 2 ^ 64 → inside v w ≡ done
unfolding part_then
none_inside v w no_run digit small = next_part v w 0 no_run digit small

module _ (s : Standing) (nothing_left : inside s.version s.within ≡ done) where
  pub rest-around : rest_at 6 s ≡ groups s.version s.members s.depth s.rows
  unfolding rest_at
  rest-around = ap (λ i. followed i (λ u. groups s.version s.members s.depth s.rows)) nothing_left

  module _ {d : ℕ} (depth_is : s.depth ≡ suc d) where
    around : rest_at 6 s ≡ groups s.version s.members (suc d) s.rows
    around = rest-around ∙ ap (λ n. groups s.version s.members n s.rows) depth_is

    -- A group whose members are all there ends.
    pub rest_ended : get_or s.members d 0 ≡ 0 → rest_at 6 s ≡ rest_at 6 (among s d s.members s.rows 24)
    unfolding rest_at inside parts_on part_then
    rest_ended none_left =
        around
        ∙ group_ends s.version s.members d s.rows none_left
        ∙ led (object_end s.version) (groups s.version s.members d s.rows)

    module _ {m : ℕ} (some_left : get_or s.members d 0 ≡ suc m) (there : d < length s.members) where
      -- What is left around an object, by its rows.
      abbrev pub then : ℕ → Script ℕ
      then n = groups s.version (set s.members d m) (suc d) (s.rows + n)

      abbrev pub leaf_on : ℕ → Script ℕ
      leaf_on c = script (leaf_body s.version c).format (λ t. then 1)

      objects : rest_at 6 s ≡ script (object s.version (depth_limit - suc d)).format (λ o. then (rows o))
      objects = around ∙ object_next s.version s.members d s.rows some_left there

      pub rest-alone : depth_limit - suc d ≡ 0 → rest_at 6 s ≡ ask (object_id (is_leaf s.version) false) leaf_on
      rest-alone last = objects ∙ ap (λ deep. script (object s.version deep).format (λ o. then (rows o))) last ∙ object-alone s.version then

      pub group_on : ℕ → Script ℕ
      group_on deep = ask member_count (λ n. script (repeat n (object s.version deep)).format (λ os. script (object_end s.version).format (λ t. then (suc (rows_all (of_list os))))))

      pub rest_nested : {deep : ℕ} → depth_limit - suc d ≡ suc deep → rest_at 6 s ≡ ask (object_id (is_leaf s.version) true) (λ c. cond (is_leaf s.version c) (leaf_on c) (group_on deep))
      unfolding group_on
      rest_nested {deep} more = objects ∙ ap (λ deep. script (object s.version deep).format (λ o. then (rows o))) more ∙ object_nested s.version then deep

      pub leaf_on_lem : (c : ℕ) → is_leaf s.version c ≡ true → leaf_on c ≡ rest_at 6 (among s (suc d) (set s.members d m) (s.rows + 1) (leaf_parts s.version c))
      unfolding rest_at
      leaf_on_lem c is = led (leaf_body s.version c) (then 1) ∙ ap (λ i. followed i (λ u. then 1)) (leaf_inside s.version c s.within is)

      pub group_on_lem : {deep : ℕ} → depth_limit - suc d ≡ suc deep → group_on deep ≡ rest_at 5 (counting s (suc d) (set s.members d m) (s.rows + 1))
      unfolding rest_at group_on
      group_on_lem {deep} more = ap (ask member_count) (fun_ext (λ n. group_opens s.version (set s.members d m) d s.rows n deep more))

-- Only the members left of the groups that are open matter.
pub rest_agree : (s : Standing) (ms : List ℕ) → s.stage ≤ 6 → ((i : ℕ) → i < s.depth → get_or s.members i 0 ≡ get_or ms i 0)
    → rest_at s.stage s ≡ rest_at s.stage (record { version = s.version; stage = s.stage; depth = s.depth; members = ms; rows = s.rows; within = s.within })
unfolding rest_at
rest_agree s ms staged same = by (eqb s.stage 0) (eqb s.stage 1) (eqb s.stage 2) (eqb s.stage 3) (eqb s.stage 4) (eqb s.stage 5)
  where
    opens : opening s.version s.members s.depth s.rows ≡ opening s.version ms s.depth s.rows
    opens =
        fun_ext (λ n. ap (λ K. script (repeat n (object s.version (depth_limit - suc s.depth))).format K)
        (fun_ext (λ os. ap (λ K. script (object_end s.version).format K) (fun_ext (λ t. groups_agree s.version s.members ms s.depth (s.rows + rows_all (of_list os)) same)))))

    around : followed (inside s.version s.within) (λ u. groups s.version s.members s.depth s.rows) ≡ followed (inside s.version s.within) (λ u. groups s.version ms s.depth s.rows)
    around = ap (λ G. followed (inside s.version s.within) (λ u. G)) (groups_agree s.version s.members ms s.depth s.rows same)

    by : (a b c d e f : Bool)
        → ◌≡◌ {A = Script ℕ}
        (elim a [ true ↦ head_on file | false ↦ elim b [ true ↦ head_on (constant version_length 3 version-length-only (drawing_from version)) | false ↦ elim c [ true ↦ head_on (drawing_from version) | false ↦ elim d [ true ↦ script (settings s.version).format (λ t. outer_on s.version) | false ↦ elim e [ true ↦ outer_on s.version | false ↦ elim f [ true ↦ ask member_count (opening s.version s.members s.depth s.rows) | false ↦ followed (inside s.version s.within) (λ u. groups s.version s.members s.depth s.rows) ] ] ] ] ] ])
        (elim a [ true ↦ head_on file | false ↦ elim b [ true ↦ head_on (constant version_length 3 version-length-only (drawing_from version)) | false ↦ elim c [ true ↦ head_on (drawing_from version) | false ↦ elim d [ true ↦ script (settings s.version).format (λ t. outer_on s.version) | false ↦ elim e [ true ↦ outer_on s.version | false ↦ elim f [ true ↦ ask member_count (opening s.version ms s.depth s.rows) | false ↦ followed (inside s.version s.within) (λ u. groups s.version ms s.depth s.rows) ] ] ] ] ] ])
    by true b c d e f = refl
    by false true c d e f = refl
    by false false true d e f = refl
    by false false false true e f = refl
    by false false false false true f = refl
    by false false false false false true = ap (ask member_count) opens
    by false false false false false false = around
