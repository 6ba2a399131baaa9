-- Demand 2 for tables: the drawing of this table is d exactly when d is acceptable and the table is d's.
use Rattle.std.specs.Prelude.{◌≡◌, refl, ◌↔◌, Bool, true, false, cond, ◌&&◌, ℕ, suc, ◌+◌, ◌-◌, ◌^◌, ◌≤◌, List, [], ◌∷◌, ◌++◌, length, leb}
use Rattle.std.proofs.Common.{sym, ap, ap₂, ◌∙◌, subst, subst₂, append-nil, arith, leb-true, le-leb}
use Rattle.std.proofs.Math.Option.{Option, none, some, some-injective, none-ne-some}
use Rattle.format.specs.Digits.{Below}
use Rattle.format.specs.Codec.{Outcome, found, refused}
use Rattle.drawing.specs.Codecs.{word_fields}
use Rattle.drawing.specs.Reading.{words}
use Rattle.format.specs.FixedCodecLaws.{below_behind}
use Rattle.laws.specs.CodecLaws.{words_sensible, words-literal}
use Rattle.format.specs.Parse.{parse}
use Rattle.format.specs.FixedLayoutLaws.{parse-encoded, parsed_good}
use Rattle.drawing.specs.Limits.{length_limit, depth_limit}
use Rattle.drawing.specs.FieldLaws.{and_both}
use Rattle.drawing.specs.String.{String, equal}
use Rattle.drawing.specs.Settings.{Settings, settings}
use Rattle.drawing.specs.Object.{Objects, list_of}
use Rattle.drawing.specs.ObjectLayout.{object, group_body}
use Rattle.drawing.specs.Drawing.{Drawing, outer, file_of, Acceptable}
use Rattle.laws.specs.FileGood.{Parts, file-parts, parts-file}
use Rattle.drawing.specs.Table.{words_of, group_kind, group_own, group_words, IsTable, rows, rows_all, bodies, bodies_all, row, contents, contents_all, head_words, contents_of, bodies_of}
use Rattle.drawing.specs.TableDrawing.{Place, Walk, met, lost, next_row, walk_group, walk_object, table_head, walk_outer, ended, whole_table, behind_head, drawing_of_table}
use Rattle.laws.specs.EqualLaws.{equal_true}
use Rattle.laws.specs.WalkLaws.{words_used, Holding, holding_onward, RowMet, next_row_holds}
use Rattle.laws.specs.WalkComplete.{place, one_word, objects-of_list, group_met, walk_many_lem, next_word}
use Rattle.laws.specs.WalkSound.{GroupMet, group_holds, object_holds, row_below}

-- The head's words are those of the table's own head.
head-words : (d : Drawing) → Parts d → words_of table_head (d.version, d.settings) ≡ head_words d
head-words d g = ap {B = List ℕ} (λ w. w ∷ words_of (settings d.version) d.settings) (one_word d.version g.version.fits)

-- ---- a drawing's table has that drawing

one_more : (n : ℕ) → 1 + n ≡ suc n
one_more n = omega arith

outer_met : (d : Drawing) → Parts d → (at : ℕ)
    → walk_outer d.version (place 0 (contents (outer d) d.version 0 0 at) at (bodies (outer d) d.version))
    ≡ met (d.members, d.description) (place (rows (outer d)) [] (at + length (bodies (outer d) d.version)) [])
outer_met d g at =
    let v = d.version in
    let os = d.members in
    let bs = bodies_all os v in
    let gw = group_words v (length (list_of os)) d.description in
    let own-good : (group_own v).Good (length (list_of os), d.description) = (g.outer.0.1.0, g.outer.1) in
    ap₂ (λ c b. walk_group v (λ r. walk_object v (depth_limit - 1) 0 r) 0 (row group_kind 0 (at + length bs) (length gw)) (place 1 c at b))
    (sym (append-nil (contents_all os v 0 1 at))) (sym (append-nil (bs ++ gw)))
    ∙ group_met v (length (list_of os)) d.description own-good (λ r. walk_object v (depth_limit - 1) 0 r) (list_of os) 0 1 (1 + rows_all os) at (contents_all os v 0 1 at ++ []) [] bs []
    (walk_many_lem os v (depth_limit - 1) 0 1 at [] (gw ++ []) g.outer.0.1.1)
    ∙ ap (λ xs. met (xs, d.description) (place (1 + rows_all os) [] (at + length bs + length gw) [])) (objects-of_list os)
    ∙ ap₂ (λ m k. met (os, d.description) (place m [] k [])) (one_more (rows_all os)) (next_word at bs gw)

pub table_complete : (d : Drawing) → Acceptable d → drawing_of_table (contents_of d) (bodies_of d) ≡ some d
table_complete d a =
    let v = d.version in
    let parts = file-parts d a.good in
    let bs = bodies (outer d) v in
    ap (behind_head (contents_of d) (length (bodies_of d)))
    (ap (λ h. parse words table_head (h ++ bs)) (sym (head-words d parts))
    ∙ parse-encoded word_fields words_sensible table_head (v, d.settings) (parts.version, parts.settings) bs)
    ∙ ap (λ at. whole_table v d.settings (walk_outer v (place 0 (contents_of d) at bs))) (words_used (head_words d) bs)
    ∙ ap (whole_table v d.settings) (outer_met d parts (length (head_words d)))
    ∙ ap (λ t. cond t (some d) none) (le-leb (length (file_of d)) length_limit a.short)

-- ---- what has a drawing is its table

outer_holds : (v : ℕ) (p : Place) → Below (2 ^ 32) p.bodies → Holding (GroupMet v (depth_limit - 1) 0 p) (walk_outer v p)
outer_holds v p b =
    holding_onward (RowMet p) (GroupMet v (depth_limit - 1) 0 p) (next_row p) (λ row q. walk_group v (λ r. walk_object v (depth_limit - 1) p.row r) 0 row q) (next_row_holds p)
    (λ row q h.
    group_holds v (depth_limit - 1) 0 (λ r. walk_object v (depth_limit - 1) p.row r) p q row h
    (λ r c. object_holds v (depth_limit - 1) p.row r c)
    (row_below p q row h b))

-- What an ended walk says.
ended-says : (c b : List ℕ) (n : ℕ) → (equal c [] && equal b [] && leb n length_limit) ≡ true → (c ≡ []) × (b ≡ []) × (n ≤ length_limit)
ended-says c b n e =
    let x = and_both (equal c [] && equal b []) (leb n length_limit) e in
    let y = and_both (equal c []) (equal b []) x.0 in
    (equal_true c [] y.0, equal_true b [] y.1, leb-true n length_limit x.1)

kept : (d e : Drawing) (t : Bool) → cond t (some d) none ≡ some e → (t ≡ true) × (d ≡ e)
kept d e true p = (refl, cc)
kept d e false p = let z : ◌≡◌ {A = ℕ} 0 1 = cc in absurd (omega arith)

-- What the walk behind a head says of the drawing that it gave.
record Said (v : ℕ) (s : Settings) (p : Place) (d : Drawing) : Type 0 where
  version-is : d.version ≡ v
  settings-are : d.settings ≡ s
  contents-are : p.contents ≡ contents (outer d) v 0 0 p.at
  bodies-are : p.bodies ≡ bodies (outer d) v
  good : (group_body v (object v (depth_limit - 1))).Good (d.members, d.description)
  short : length (file_of d) ≤ length_limit

whole_said : (v : ℕ) (s : Settings) (at : ℕ) (C B : List ℕ) (w : Walk (Objects × String)) → Holding (GroupMet v (depth_limit - 1) 0 (place 0 C at B)) w
    → (d : Drawing) → whole_table v s w ≡ some d → Said v s (place 0 C at B) d
whole_said v s at C B lost h d e = let z : ◌≡◌ {A = ℕ} 0 1 = cc in absurd (omega arith)
whole_said v s at C B (met t q) h d e =
    let D : Drawing = record { version = v; settings = s; members = t.0; description = t.1 } in
    let k = kept D d (ended D q) e in
    let x = ended-says q.contents q.bodies (length (file_of D)) k.0 in
    subst (Said v s (place 0 C at B)) k.1
    (record {
      version-is = refl;
      settings-are = refl;
      contents-are = h.over.contents ∙ ap (λ l. contents (outer D) v 0 0 at ++ l) x.0 ∙ append-nil (contents (outer D) v 0 0 at);
      bodies-are = h.over.bodies ∙ ap (λ l. bodies (outer D) v ++ l) x.1 ∙ append-nil (bodies (outer D) v);
      good = h.good;
      short = x.2;
    })

assembled : (d : Drawing) (c bs rest : List ℕ) → table_head.Good (d.version, d.settings) → bs ≡ words_of table_head (d.version, d.settings) ++ rest
    → Said d.version d.settings (place 0 c (length bs - length rest) rest) d → IsTable c bs d
assembled d c bs rest g split said =
    let parts : Parts d = record { version = g.0; settings = g.1; outer = said.good } in
    let W = words_of table_head (d.version, d.settings) in
    let at : length bs - length rest ≡ length (head_words d) = ap (λ l. length l - length rest) split ∙ words_used W rest ∙ ap length (head-words d parts) in
    record {
      acceptable = record { good = parts-file d parts; short = said.short };
      contents-are = said.contents-are ∙ ap (contents (outer d) d.version 0 0) at;
      bodies-are = split ∙ ap₂ ◌++◌ (head-words d parts) said.bodies-are;
    }

head_said : (c bs : List ℕ) → Below (2 ^ 32) bs → (o : Outcome (ℕ × Settings)) → parse words table_head bs ≡ o → (d : Drawing)
    → behind_head c (length bs) o ≡ some d → IsTable c bs d
head_said c bs b (refused n at) p d e = let z : ◌≡◌ {A = ℕ} 0 1 = cc in absurd (omega arith)
head_said c bs b (found h rest) p d e =
    let g = parsed_good word_fields words_sensible words-literal table_head bs b h rest p in
    let at = length bs - length rest in
    let below = below_behind (2 ^ 32) (words_of table_head h) rest (subst (Below (2 ^ 32)) g.1 b) in
    let said = whole_said h.0 h.1 at c rest (walk_outer h.0 (place 0 c at rest)) (outer_holds h.0 (place 0 c at rest) below) d e in
    let t =
    subst₂ (λ v s. table_head.Good (v, s) × (bs ≡ words_of table_head (v, s) ++ rest) × Said v s (place 0 c at rest) d)
    (sym said.version-is) (sym said.settings-are) (g.0, g.1, said) in
    assembled d c bs rest t.0 t.1 t.2

-- The drawing of this table is d exactly when d is acceptable and contents and bodies are d's table.
pub drawing-of_table : (c bs : List ℕ) → Below (2 ^ 32) bs → (d : Drawing) → (drawing_of_table c bs ≡ some d) ↔ IsTable c bs d
drawing-of_table c bs b d = (
  λ e. head_said c bs b (parse words table_head bs) refl d e,
  λ t. ap₂ drawing_of_table t.contents-are t.bodies-are ∙ table_complete d t.acceptable,
)

-- So no two drawings share a table.
pub table_unique : (d e : Drawing) → Acceptable d → Acceptable e → contents_of d ≡ contents_of e → bodies_of d ≡ bodies_of e → d ≡ e
table_unique d e a b p q =
    some-injective d e (sym (table_complete d a) ∙ ap₂ drawing_of_table p q ∙ table_complete e b)

-- And a table that no acceptable file gives has no drawing.
pub no_drawing : (c bs : List ℕ) → Below (2 ^ 32) bs → (drawing_of_table c bs ≡ none) ↔ ((d : Drawing) → IsTable c bs d → ⊥)
no_drawing c bs b = (there, back (drawing_of_table c bs) refl)
  where
    there : drawing_of_table c bs ≡ none → (d : Drawing) → IsTable c bs d → ⊥
    there e d t = none-ne-some d (sym e ∙ (drawing-of_table c bs b d).1 t)

    back : (o : Option Drawing) → drawing_of_table c bs ≡ o → ((d : Drawing) → IsTable c bs d → ⊥) → drawing_of_table c bs ≡ none
    back none e h = e
    back (some d) e h = absurd (h d ((drawing-of_table c bs b d).0 e))
