-- What the functions over a place in a file promise: one part was judged, and what is left of the file is what is left behind it.
use Rattle.std.specs.Prelude.{◌≡◌, Bool, true, false, cond, ◌&&◌, not, List, [], ◌∷◌, eqb, leb, ltb, length, get_or, set}
use Rattle.std.proofs.Math.Path.{refl}
use Rattle.std.proofs.Common.{sym, ap, ◌∙◌, subst, length-set, eqb-true, eq-eqb, ne_eqb, lt-ltb, le-ltb, leb-true, ltb-true, ltb-false, add-one}
use Rattle.std.proofs.lemmas.Bool.{false≢true}
use Prim.Native.Nat.{ℕ, zero, suc, ◌+◌, ◌-◌, ◌%◌, ◌^◌, ◌<◌, ◌≤◌}
use native.Mathlib.Omega.{arith}
use Rattle.format.specs.Digits.{Below}
use Rattle.format.specs.Kind.{Kind}
use Rattle.format.specs.Script.{Script, ask}
use Rattle.format.specs.Format.{script}
use Rattle.format.specs.Layout.{Layout, either}
use Rattle.format.specs.Choice.{one_of}
use Rattle.format.specs.Pass.{◌⟫◌, done}
use Rattle.drawing.specs.Limits.{depth_limit, last_minor}
use Rattle.drawing.specs.Settings.{absent_case, all_case, paper_case, settings}
use Rattle.drawing.specs.SettingsLaws.{one_of_two, one_of_three}
use Rattle.drawing.specs.Fields.{byte_in, flag, unless, object_fault, object_id, member_count, version_chars, version_zero}
use Rattle.drawing.specs.LeafLayout.{is_leaf}
use Rattle.drawing.proofs.ObjectLaws.{group_no_leaf}
use Rattle.ways.specs.declared.Pass.{Pass}
use Rattle.ways.specs.declared.FieldPass.{FieldPass}
use Rattle.ways.specs.Passes.{refused}
use Rattle.ways.specs.Carries.{Asked, Laid}
use Rattle.from_file.specs.Way.{way}
use Rattle.pieces.specs.TallyLaws.{Asks}
use Rattle.pieces.specs.Going.{room}
use Rattle.pieces.specs.BoundLaws.{Most}
use Rattle.pieces.specs.declared.Inside.{Inside}
use Rattle.pieces.specs.Parts.{Standing, inside, groups, rest_at, rest}
use Rattle.pieces.specs.PartLaws.{with_parts}
use Rattle.pieces.specs.EntryLaws.{leaf_parts, none_inside, counting, among, rest-count, rest_ended, rest-alone, rest_nested, leaf_on_lem, group_on_lem, leaf_on, group_on}
use Rattle.session_run.specs.declared.cursor.Cursor.{Cursor}
use Rattle.session_run.specs.declared.cursor.Step.{Step}
use Rattle.session_run.specs.declared.place.Place.{Place}
use Rattle.session_run.specs.Steps.{StepsTo, steps_same, steps_gone, steps_end, steps_behind, layout_steps, field_steps}
use Rattle.session_run.specs.Told.{Told}
use Rattle.session_run.specs.Insides.{InsideSteps, Opened, Next}

abbrev pub standing_of : Place → List ℕ → Standing
standing_of p ms = record { version = p.version; stage = p.stage; depth = p.depth; members = ms; rows = p.rows; within = p.inside }

-- Groups nest no deeper than they may.
pub record Sound (p : Place) : Type 0 where
  pub staged : p.stage ≤ 6
  pub shallow : p.depth ≤ depth_limit
  pub may-open : p.stage ≡ 5 → p.depth < depth_limit

pub record PlaceSteps (p : Place) (ms ms' us : List ℕ) (at to : ℕ) (r : Step Place) : Type 0 where
  pub steps : StepsTo (rest (standing_of p ms)) (rest (standing_of r.left ms')) us at to r.pass.at r.pass.to
  pub kept : refused ≤ r.pass.at → ms' ≡ ms
  pub sized : length ms' ≡ length ms
  pub sound : r.pass.at < refused → Sound r.left
  pub few-rows : r.left.rows ≤ p.rows + 1

-- The same from a place in a file's bytes.
abbrev pub PlaceHere : Place → (ms ms' : List ℕ) → Cursor → Step Place → Type 0
PlaceHere p ms ms' here r = PlaceSteps p ms ms' here.src.now here.at here.to r

-- Nothing is left of the object that is open.
pub record Between (s : Inside) : Type 0 where
  pub no_run : s.run ≡ 0
  pub digit : s.parts % 25 ≡ 0
  pub small : s.parts < 2 ^ 64

pub record IsOpen (s : Inside) (r : Bool) : Type 0 where
  pub opened : r ≡ true → Opened s
  pub between : r ≡ false → Between s

-- The outer group has ended.
pub record Over (p : Place) : Type 0 where
  pub objects-now : p.stage ≡ 6
  pub none_open : p.depth ≡ 0
  pub between : Between p.inside

pub record IsOver (p : Place) (r : Bool) : Type 0 where
  pub over : r ≡ true → Over p
  pub unended : r ≡ false → Over p → ⊥

-- It has not.
pub record Unended (p : Place) : Type 0 where
  pub more : Over p → ⊥

-- ---- the head

-- Whatever the members of groups are, of which there is room for some.
pub record HeadSteps (p : Place) (us : List ℕ) (at to : ℕ) (r : Step Place) : Type 0 where
  pub steps : (ms : List ℕ) → 0 < length ms → StepsTo (rest (standing_of p ms)) (rest (standing_of r.left ms)) us at to r.pass.at r.pass.to
  pub sound : r.pass.at < refused → Sound r.left
  pub few-rows : r.left.rows ≤ p.rows + 1

abbrev pub HeadHere : Place → Cursor → Step Place → Type 0
HeadHere p here r = HeadSteps p here.src.now here.at here.to r

module _ (p : Place) {n : ℕ} (Stage-is : p.stage ≡ n) where
  -- What is left at this stage.
  here : (ms : List ℕ) → rest (standing_of p ms) ≡ rest_at n (standing_of p ms)
  here ms = ap (λ stage. rest_at stage (standing_of p ms)) Stage-is

  module _ {us : List ℕ} {at to : ℕ} {r : Step Place} where
    -- A field that tells nothing.
    pub head-told : (k : Kind) (p' : Place) → ((ms : List ℕ) → 0 < length ms → rest_at n (standing_of p ms) ≡ ask k (λ v. rest (standing_of p' ms))) → Sound p' → p'.rows ≤ p.rows + 1
        → {q : FieldPass} → Told ℕ k us at to q → r ≡ record { left = p'; pass = q.pass } → HeadSteps p us at to r
    head-told k p' asks sound few {q} told is =
        subst (HeadSteps p us at to) (sym is)
        (record {
          steps = λ ms some. steps_same (here ms ∙ asks ms some) refl (told.steps (λ v. rest (standing_of p' ms)));
          sound = λ on. sound;
          few-rows = few;
        })

    -- The settings, which are judged whole.
    pub head-whole : {A : Type 0} (L : Layout A) {most : ℕ} (p' : Place) → ((ms : List ℕ) → 0 < length ms → rest_at n (standing_of p ms) ≡ script L.format (λ t. rest (standing_of p' ms))) → Sound p' → p'.rows ≤ p.rows + 1
        → Most most L → most ≤ room → Asks (L ⟫ done) → at ≤ length us → {m m' : List ℕ} {q : Pass} → Laid L.format way us m m' at to q.at q.to → r ≡ record { left = p'; pass = q } → HeadSteps p us at to r
    head-whole L p' asks sound few bound fits first inside {q = q} laid is =
        subst (HeadSteps p us at to) (sym is)
        (record {
          steps = λ ms some. steps_same (here ms ∙ asks ms some) refl (layout_steps L bound fits first (rest (standing_of p' ms)) inside laid);
          sound = λ on. sound;
          few-rows = few;
        })

    -- A field that tells what follows, if it is passed.
    pub head_tells : (k : Kind) (next : List ℕ → ℕ → Script ℕ) (p' : Place) → ((ms : List ℕ) → 0 < length ms → rest_at n (standing_of p ms) ≡ ask k (next ms)) → p'.rows ≤ p.rows + 1
        → {q : FieldPass} → (q.pass.at < refused → Sound p' × ((ms : List ℕ) → next ms q.value ≡ rest (standing_of p' ms))) → Told ℕ k us at to q → r ≡ record { left = p'; pass = q.pass } → HeadSteps p us at to r
    head_tells k next p' asks few {q} then told is =
        subst (HeadSteps p us at to) (sym is)
        (record {
          steps = λ ms some. steps_end (λ on. (then on).1 ms) (steps_same (here ms ∙ asks ms some) refl (told.steps (next ms)));
          sound = λ on. (then on).0;
          few-rows = few;
        })

-- A place at another stage of the head is sound.
pub sound-at : {p : Place} (stage version : ℕ) → stage < 5 → Sound p → Sound (record { stage = stage; version = version; depth = p.depth; rows = p.rows; inside = p.inside })
sound-at stage version early sound = record { staged = omega arith; shallow = sound.shallow; may-open = λ e. absurd (omega arith) }

-- The settings begin with a field.
pub settings_ask : (v : ℕ) → Asks (settings v ⟫ done)
settings_ask v = by (leb 3 v)
  where
    by : (t : Bool) → Asks (either t (one_of (byte_in 0 2) absent_case (all_case v ∷ paper_case v ∷ []) one_of_three) (one_of flag absent_case (all_case v ∷ []) one_of_two) ⟫ done)
    by true = omega arith
    by false = omega arith

-- The version's chars are in their range.
pub version_range : (c : ℕ) → version_chars.fault c ≡ 0 → (version_zero ≤ c) × (c ≤ version_zero + last_minor)
version_range c fine = by (leb version_zero c) refl (leb c (version_zero + last_minor)) refl fine
  where
    by : (a : Bool) → leb version_zero c ≡ a → (b : Bool) → leb c (version_zero + last_minor) ≡ b → unless (a && b) 4 ≡ 0 → (version_zero ≤ c) × (c ≤ version_zero + last_minor)
    by true e true f z = (leb-true version_zero c e, leb-true c (version_zero + last_minor) f)
    by true e false f z = absurd (omega arith)
    by false e b f z = absurd (omega arith)

-- ---- groups and objects

-- A step that was refused leaves everything as it was.
pub place_gone : {p : Place} {ms us : List ℕ} {at to : ℕ} {t : Script ℕ} {q : Pass} {r : Step Place} → refused ≤ q.at → StepsTo (rest (standing_of p ms)) t us at to q.at q.to
    → r ≡ record { left = p; pass = q } → PlaceSteps p ms ms us at to r
place_gone {p} {ms} {us} {at} {to} off steps is =
    subst (PlaceSteps p ms ms us at to) (sym is) (record { steps = steps_gone off steps; kept = λ off. refl; sized = refl; sound = λ on. absurd (omega arith); few-rows = omega arith })

-- One that went on.
pub place_went : {p p' : Place} {ms ms' us : List ℕ} {at to : ℕ} {q : Pass} {r : Step Place} → q.at < refused → StepsTo (rest (standing_of p ms)) (rest (standing_of p' ms')) us at to q.at q.to
    → length ms' ≡ length ms → Sound p' → p'.rows ≤ p.rows + 1 → r ≡ record { left = p'; pass = q } → PlaceSteps p ms ms' us at to r
place_went {p} {ms = ms} {ms'} {us} {at} {to} on steps sized sound few is =
    subst (PlaceSteps p ms ms' us at to) (sym is) (record { steps = steps; kept = λ off. absurd (omega arith); sized = sized; sound = λ on. sound; few-rows = few })

-- In the head no group has members yet.
pub place-head : {p : Place} {ms us : List ℕ} {at to : ℕ} {r : Step Place} → 0 < length ms → HeadSteps p us at to r → PlaceSteps p ms ms us at to r
place-head {ms = ms} some head = record { steps = head.steps ms some; kept = λ off. refl; sized = refl; sound = head.sound; few-rows = head.few-rows }

-- A group's count.
module _ (p : Place) (ms : List ℕ) (counting-now : p.stage ≡ 5) (deep-enough : p.depth < length ms) where
  abbrev count_then : ℕ → Script ℕ
  count_then n = rest_at 6 (among (standing_of p ms) (suc p.depth) (set ms p.depth n) p.rows 0)

  pub count-asks : rest (standing_of p ms) ≡ ask member_count count_then
  count-asks = here p counting-now ms ∙ rest-count (standing_of p ms) deep-enough

  -- With so many members it is open.
  abbrev pub opened_group : Place
  opened_group = record { stage = 6; version = p.version; depth = p.depth + 1; rows = p.rows; inside = with_parts p.inside 0 }

  pub count-opens : (n : ℕ) → count_then n ≡ rest (standing_of opened_group (set ms p.depth n))
  count-opens n = ap (λ d. rest_at 6 (among (standing_of p ms) d (set ms p.depth n) p.rows 0)) (sym (add-one p.depth))

-- An object's id.
module _ (p : Place) (ms : List ℕ) (objects-now : p.stage ≡ 6) (nothing_left : inside p.version p.inside ≡ done) (some-deep : 0 < p.depth) (some_left : 0 < get_or ms (p.depth - 1) 0) (room_for : length ms ≡ depth_limit) (sound : Sound p) where
  abbrev s : Standing
  s = standing_of p ms

  abbrev d : ℕ
  d = p.depth - 1

  abbrev pub fewer : List ℕ
  fewer = set ms d (get_or ms d 0 - 1)

  pub depth_is : p.depth ≡ suc d
  depth_is = omega arith

  pub left_is : get_or ms d 0 ≡ suc (get_or ms d 0 - 1)
  left_is = omega arith

  pub there : d < length ms
  there = let few = sound.shallow in omega arith

  -- A leaf, and a group whose count comes next.
  abbrev pub leaf_place : ℕ → Place
  leaf_place c = record { stage = 6; version = p.version; depth = p.depth; rows = p.rows + 1; inside = with_parts p.inside (leaf_parts p.version c) }

  abbrev pub group_place : Place
  group_place = record { stage = 5; version = p.version; depth = p.depth; rows = p.rows + 1; inside = p.inside }

  -- What follows the id: where groups may nest deeper, and where not.
  abbrev pub id_then : Bool → ℕ → Script ℕ
  id_then true c = cond (is_leaf p.version c) (leaf_on s nothing_left depth_is left_is there c) (group_on s nothing_left depth_is left_is there (depth_limit - suc d - 1))
  id_then false c = leaf_on s nothing_left depth_is left_is there c

  id_asks : (b : Bool) → ltb p.depth depth_limit ≡ b → rest s ≡ ask (object_id (is_leaf p.version) b) (id_then b)
  id_asks true e =
      let less = ltb-true p.depth depth_limit e in
      let more : depth_limit - suc d ≡ suc (depth_limit - suc d - 1) = omega arith in
      here p objects-now ms ∙ rest_nested s nothing_left depth_is left_is there more
  id_asks false e =
      let most = ltb-false p.depth depth_limit e in
      let few = sound.shallow in
      let last : depth_limit - suc d ≡ 0 = omega arith in
      here p objects-now ms ∙ rest-alone s nothing_left depth_is left_is there last

  module _ {us : List ℕ} {at to : ℕ} {q : FieldPass} (told : Told ℕ (object_id (is_leaf p.version) (ltb p.depth depth_limit)) us at to q) where
    -- The id, whatever it is.
    pub id_steps : StepsTo (rest s) (id_then (ltb p.depth depth_limit) q.value) us at to q.pass.at q.pass.to
    id_steps = steps_same (id_asks (ltb p.depth depth_limit) refl) refl (told.steps (id_then (ltb p.depth depth_limit)))

    -- An id that is none of a group's is a leaf's.
    pub leaf_steps : q.pass.at < refused → (q.value ≡ 71 → ⊥) → StepsTo (rest s) (rest (standing_of (leaf_place q.value) fewer)) us at to q.pass.at q.pass.to
    leaf_steps on no_group = steps_end (λ on. by (ltb p.depth depth_limit)) id_steps
      where
        is_leaf_lem : is_leaf p.version q.value ≡ true
        is_leaf_lem = told_so (is_leaf p.version q.value) refl (ltb p.depth depth_limit) (sym (ap (λ t. object_fault (is_leaf p.version q.value) t (ltb p.depth depth_limit)) (ne_eqb q.value 71 no_group)) ∙ told.fine on)
          where
            told_so : (l : Bool) → is_leaf p.version q.value ≡ l → (b : Bool) → object_fault l false b ≡ 0 → is_leaf p.version q.value ≡ true
            told_so true e b z = e
            told_so false e b z = absurd (omega arith)

        leaves : leaf_on s nothing_left depth_is left_is there q.value ≡ rest (standing_of (leaf_place q.value) fewer)
        leaves =
            leaf_on_lem s nothing_left depth_is left_is there q.value is_leaf_lem
            ∙ ap (λ n. rest_at 6 (among s n fewer (p.rows + 1) (leaf_parts p.version q.value))) (sym depth_is)

        by : (b : Bool) → id_then b q.value ≡ rest (standing_of (leaf_place q.value) fewer)
        by true = ap (λ t. cond t (leaf_on s nothing_left depth_is left_is there q.value) (group_on s nothing_left depth_is left_is there (depth_limit - suc d - 1))) is_leaf_lem ∙ leaves
        by false = leaves

    -- A group's is one only where groups may nest deeper.
    pub group_deeper : q.pass.at < refused → q.value ≡ 71 → p.depth < depth_limit
    group_deeper on is-group = by (ltb p.depth depth_limit) refl (sym faults ∙ told.fine on)
      where
        faults : (object_id (is_leaf p.version) (ltb p.depth depth_limit)).fault q.value ≡ object_fault false true (ltb p.depth depth_limit)
        faults =
            ap (λ c. (object_id (is_leaf p.version) (ltb p.depth depth_limit)).fault c) is-group
            ∙ ap (λ l. object_fault l true (ltb p.depth depth_limit)) (group_no_leaf p.version)

        by : (b : Bool) → ltb p.depth depth_limit ≡ b → object_fault false true b ≡ 0 → p.depth < depth_limit
        by true e z = ltb-true p.depth depth_limit e
        by false e z = absurd (omega arith)

    pub group_steps : q.pass.at < refused → q.value ≡ 71 → StepsTo (rest s) (rest (standing_of group_place fewer)) us at to q.pass.at q.pass.to
    group_steps on is-group = steps_end (λ on. by (ltb p.depth depth_limit) refl) id_steps
      where
        less : p.depth < depth_limit
        less = group_deeper on is-group

        by : (b : Bool) → ltb p.depth depth_limit ≡ b → id_then b q.value ≡ rest (standing_of group_place fewer)
        by true e =
            let more : depth_limit - suc d ≡ suc (depth_limit - suc d - 1) = omega (arith, less) in
            ap (λ c. cond (is_leaf p.version c) (leaf_on s nothing_left depth_is left_is there c) (group_on s nothing_left depth_is left_is there (depth_limit - suc d - 1))) is-group
            ∙ ap (λ t. cond t (leaf_on s nothing_left depth_is left_is there 71) (group_on s nothing_left depth_is left_is there (depth_limit - suc d - 1))) (group_no_leaf p.version)
            ∙ group_on_lem s nothing_left depth_is left_is there more
            ∙ ap (λ n. rest_at 5 (counting s n fewer (p.rows + 1))) (sym depth_is)
        by false e = let most = ltb-false p.depth depth_limit e in absurd (omega (arith, less))

-- A group whose members are all there: its end comes next.
module _ (p : Place) (ms : List ℕ) (objects-now : p.stage ≡ 6) (nothing_left : inside p.version p.inside ≡ done) (some-deep : 0 < p.depth) (none_left : get_or ms (p.depth - 1) 0 ≡ 0) where
  abbrev pub ended_group : Inside → Place
  ended_group i = record { stage = 6; version = p.version; depth = p.depth - 1; rows = p.rows; inside = i }

  pub ended_steps : {us : List ℕ} {at to : ℕ} {r : Step Inside} → InsideSteps p.version (with_parts p.inside 24) us at to r → StepsTo (rest (standing_of p ms)) (rest (standing_of (ended_group r.left) ms)) us at to r.pass.at r.pass.to
  unfolding rest_at
  ended_steps {r = r} steps =
      steps_same (here p objects-now ms ∙ rest_ended (standing_of p ms) nothing_left deep none_left) refl
      (steps_behind (inside p.version (with_parts p.inside 24)) (inside p.version r.left) (λ u. groups p.version ms (p.depth - 1) p.rows) steps.steps)
    where
      deep : p.depth ≡ suc (p.depth - 1)
      deep = omega arith

-- A part of the object that is open.
module _ (p : Place) (ms : List ℕ) (objects-now : p.stage ≡ 6) where
  abbrev pub with_inside : Inside → Place
  with_inside i = record { stage = 6; version = p.version; depth = p.depth; rows = p.rows; inside = i }

  pub inside_steps : {us : List ℕ} {at to : ℕ} {r : Step Inside} → InsideSteps p.version p.inside us at to r → StepsTo (rest (standing_of p ms)) (rest (standing_of (with_inside r.left) ms)) us at to r.pass.at r.pass.to
  unfolding rest_at
  inside_steps {r = r} steps =
      steps_same (here p objects-now ms) refl
      (steps_behind (inside p.version p.inside) (inside p.version r.left) (λ u. groups p.version ms p.depth p.rows) steps.steps)

-- ---- what the functions return

pub between_done : (p : Place) → Between p.inside → inside p.version p.inside ≡ done
between_done p between = none_inside p.version p.inside between.no_run between.digit between.small

-- A group's count.
module _ (p : Place) (ms : List ℕ) (counting-now : p.stage ≡ 5) (deep-enough : p.depth < length ms) {us : List ℕ} (below : Below 256 us) {at to : ℕ} (inside-them : at ≤ length us) {m m' : List ℕ} {q : FieldPass} (asked : Asked member_count way us m m' at to q) where
  pub count-counted : StepsTo (rest (standing_of p ms)) (count_then p ms counting-now deep-enough q.value) us at to q.pass.at q.pass.to
  count-counted = steps_same (count-asks p ms counting-now deep-enough) refl (field_steps member_count (omega arith) (omega arith) (count_then p ms counting-now deep-enough) below inside-them asked)

  pub count_went : q.pass.at < refused → p.depth < depth_limit → {i : Inside} → i ≡ with_parts p.inside 0 → {r : Step Place}
      → r ≡ record { left = record { stage = 6; version = p.version; depth = p.depth + 1; rows = p.rows; inside = i }; pass = q.pass }
      → PlaceSteps p ms (set ms p.depth q.value) us at to r
  count_went on less {i} inside_is is =
      place_went on (steps_same refl (count-opens p ms counting-now deep-enough q.value) count-counted) (length-set ms p.depth q.value)
      (record { staged = omega arith; shallow = omega arith; may-open = λ e. absurd (omega arith) }) (omega arith)
      (is ∙ ap {B = Step Place} (λ i. record { left = record { stage = 6; version = p.version; depth = p.depth + 1; rows = p.rows; inside = i }; pass = q.pass }) inside_is)

-- An object's id.
module _ (p : Place) (ms : List ℕ) (objects-now : p.stage ≡ 6) (nothing_left : inside p.version p.inside ≡ done) (some-deep : 0 < p.depth) (some_left : 0 < get_or ms (p.depth - 1) 0) (room_for : length ms ≡ depth_limit) (sound : Sound p) {us : List ℕ} {at to : ℕ} {q : FieldPass} (told : Told ℕ (object_id (is_leaf p.version) (ltb p.depth depth_limit)) us at to q) (on : q.pass.at < refused) where
  pub object_group : q.value ≡ 71 → {g : Place} → g ≡ record { stage = 5; version = p.version; depth = p.depth; rows = p.rows + 1; inside = p.inside } → {r : Step Place} → r ≡ record { left = g; pass = q.pass }
      → PlaceSteps p ms (set ms (p.depth - 1) (get_or ms (p.depth - 1) 0 - 1)) us at to r
  object_group is-group {g} g-is is =
      place_went on (group_steps p ms objects-now nothing_left some-deep some_left room_for sound told on is-group) (length-set ms (p.depth - 1) (get_or ms (p.depth - 1) 0 - 1))
      (record { staged = omega arith; shallow = sound.shallow; may-open = λ e. group_deeper p ms objects-now nothing_left some-deep some_left room_for sound told on is-group }) (omega arith)
      (is ∙ ap {B = Step Place} (λ g. record { left = g; pass = q.pass }) g-is)

  pub object_leaf : (q.value ≡ 71 → ⊥) → {n : ℕ} → n ≡ leaf_parts p.version q.value → {i : Inside} → i ≡ with_parts p.inside n
      → {g : Place} → g ≡ record { stage = 6; version = p.version; depth = p.depth; rows = p.rows + 1; inside = i } → {r : Step Place} → r ≡ record { left = g; pass = q.pass }
      → PlaceSteps p ms (set ms (p.depth - 1) (get_or ms (p.depth - 1) 0 - 1)) us at to r
  object_leaf no_group {n} n-is {i} i-is {g} g-is is =
      place_went on (leaf_steps p ms objects-now nothing_left some-deep some_left room_for sound told on no_group) (length-set ms (p.depth - 1) (get_or ms (p.depth - 1) 0 - 1))
      (record { staged = omega arith; shallow = sound.shallow; may-open = λ e. absurd (omega arith) }) (omega arith)
      (is
      ∙ ap {B = Step Place} (λ g. record { left = g; pass = q.pass }) g-is
      ∙ ap {B = Step Place} (λ i. record { left = record { stage = 6; version = p.version; depth = p.depth; rows = p.rows + 1; inside = i }; pass = q.pass }) (i-is ∙ ap (with_parts p.inside) n-is))

-- A group's end.
pub end_next : (s : Inside) {i : Inside} → i ≡ with_parts s 24 → Next i 24
end_next s is = subst (λ i. Next i 24) (sym is) (record { no_run = refl; digit = refl; small = omega arith })

pub ended-place : (p : Place) (ms : List ℕ) → p.stage ≡ 6 → inside p.version p.inside ≡ done → 0 < p.depth → get_or ms (p.depth - 1) 0 ≡ 0 → Sound p → {i : Inside} → i ≡ with_parts p.inside 24
    → {us : List ℕ} {at to : ℕ} {r : Step Inside} → InsideSteps p.version i us at to r
    → PlaceSteps p ms ms us at to (record { left = record { stage = 6; version = p.version; depth = p.depth - 1; rows = p.rows; inside = r.left }; pass = r.pass })
ended-place p ms objects-now nothing_left some-deep none_left sound is {us} {at} {to} {r} steps =
    let few = sound.shallow in
    record {
      steps = ended_steps p ms objects-now nothing_left some-deep none_left (subst (λ i. InsideSteps p.version i us at to r) is steps);
      kept = λ off. refl;
      sized = refl;
      sound = λ on. record { staged = omega arith; shallow = omega arith; may-open = λ e. absurd (omega arith) };
      few-rows = omega arith;
    }

-- A part of the object that is open.
pub open_place : (p : Place) (ms : List ℕ) → p.stage ≡ 6 → Sound p → {us : List ℕ} {at to : ℕ} {r : Step Inside} → InsideSteps p.version p.inside us at to r
    → PlaceSteps p ms ms us at to (record { left = record { stage = 6; version = p.version; depth = p.depth; rows = p.rows; inside = r.left }; pass = r.pass })
open_place p ms objects-now sound steps =
    record {
      steps = inside_steps p ms objects-now steps;
      kept = λ off. refl;
      sized = refl;
      sound = λ on. record { staged = omega arith; shallow = sound.shallow; may-open = λ e. absurd (omega arith) };
      few-rows = omega arith;
    }

pub open_by-run : {s : Inside} → 0 < s.run → IsOpen s true
open_by-run more = record { opened = λ e. record { more = λ z. absurd (omega arith) }; between = λ e. absurd (false≢true (sym e)) }

pub open_by-parts : {s : Inside} → s.run ≤ 0 → s.parts < 2 ^ 64 → IsOpen s (not (eqb (s.parts % 25) 0))
open_by-parts {s} no_run small = by (eqb (s.parts % 25) 0) refl
  where
    by : (b : Bool) → eqb (s.parts % 25) 0 ≡ b → IsOpen s (not b)
    by true e = record { opened = λ z. absurd (false≢true z); between = λ z. record { no_run = omega arith; digit = eqb-true (s.parts % 25) 0 e; small = small } }
    by false e = record { opened = λ z. record { more = λ r. positive (s.parts % 25) e }; between = λ z. absurd (false≢true (sym z)) }
      where
        positive : (n : ℕ) → eqb n 0 ≡ false → 0 < n
        positive zero e = absurd (false≢true (sym e))
        positive (suc n) e = omega arith

pub over_not : {p : Place} → (Over p → ⊥) → IsOver p false
over_not no_end = record { over = λ e. absurd (false≢true e); unended = λ e. no_end }

pub over_by : {p : Place} → p.stage ≡ 6 → p.depth ≡ 0 → {r : Bool} → IsOpen p.inside r → IsOver p (not r)
over_by {p} objects-now none_open {r} is = by r is
  where
    by : (r : Bool) → IsOpen p.inside r → IsOver p (not r)
    by true is = record { over = λ e. absurd (false≢true e); unended = λ e o. let more = (is.opened refl).more o.between.no_run in let digit = o.between.digit in omega arith }
    by false is = record { over = λ e. record { objects-now = objects-now; none_open = none_open; between = is.between refl }; unended = λ e. absurd (false≢true (sym e)) }

pub deep_or_over : {p : Place} → p.stage ≡ 6 → Between p.inside → Unended p → 0 < p.depth
deep_or_over {p} objects-now between unended = by p.depth refl
  where
    by : (n : ℕ) → p.depth ≡ n → 0 < p.depth
    by zero e = absurd (unended.more (record { objects-now = objects-now; none_open = e; between = between }))
    by (suc n) e = omega arith

-- The parts of a leaf, by the tests on its letter.
pub leaf_number : (v c : ℕ)
    → (c ≡ 84 → 8962 ≡ leaf_parts v c)
    × ((c ≡ 84 → ⊥) → c ≡ 73 → 413 ≡ leaf_parts v c)
    × ((c ≡ 84 → ⊥) → (c ≡ 73 → ⊥) → c ≡ 88 → 239676 ≡ leaf_parts v c)
    × ((c ≡ 84 → ⊥) → (c ≡ 73 → ⊥) → (c ≡ 88 → ⊥) → v < 1 → 104776735651 ≡ leaf_parts v c)
    × ((c ≡ 84 → ⊥) → (c ≡ 73 → ⊥) → (c ≡ 88 → ⊥) → 1 ≤ v → 2619425173151 ≡ leaf_parts v c)
leaf_number v c = (
  λ t. sym (simp (eq-eqb c 84 t)),
  λ t i. sym (simp (ne_eqb c 84 t, eq-eqb c 73 i)),
  λ t i x. sym (simp (ne_eqb c 84 t, ne_eqb c 73 i, eq-eqb c 88 x)),
  λ t i x o. sym (simp (ne_eqb c 84 t, ne_eqb c 73 i, ne_eqb c 88 x, lt-ltb v 1 o)),
  λ t i x o. sym (simp (ne_eqb c 84 t, ne_eqb c 73 i, ne_eqb c 88 x, le-ltb v 1 o)),
)
