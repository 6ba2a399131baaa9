-- The walk over a group: its members, and behind them its own body, whose count tells how many they are.
use Rattle.std.specs.Prelude.{◌≡◌, refl, Bool, true, false, ℕ, zero, suc, ◌+◌, ◌-◌, ◌*◌, ◌^◌, ◌<◌, ◌≤◌, List, ◌∷◌, ◌++◌, eqb, leb, length, drop, get_or}
use Rattle.std.proofs.Common.{sym, ap₂, subst, ◌∙◌, arith, append_assoc, length-append, length-drop, eqb-true, leb-true, leb-false}
use Rattle.std.proofs.Math.Path.{ap}
use Prim.Native.Char.{code}
use Rattle.format.specs.Digits.{Below, digits}
use Rattle.format.specs.DigitsLaws.{length_digits}
use Rattle.format.specs.Kind.{Allowed}
use Rattle.format.specs.Layout.{repeat}
use Rattle.format.specs.LeafLaws.{below_drop}
use Rattle.drawing.specs.Fields.{member_count}
use Rattle.drawing.specs.String.{String}
use Rattle.drawing.specs.Object.{Object, Objects, of_list, list_of}
use Rattle.drawing.specs.ObjectLaws.{list_of_list}
use Rattle.drawing.specs.LeafLayout.{object_end}
use Rattle.drawing.specs.ObjectLayout.{object}
use Rattle.drawing.specs.Table.{words_of, rows, bodies, contents, group_kind, group_own, start_in}
use Rattle.drawing.specs.TableDrawing.{Place, Walk, met, lost, onward, provided, body, walk_many, walk_group, walk_object}
use Rattle.laws.specs.ObjectBytes.{bytes_of, group_body-bytes}
use Rattle.laws.specs.WalkLaws.{Holding, holding_onward, holding_provided, over_below, BodyMet, body_holds}
use Rattle.laws.specs.WalkSound.{ObjectMet, object_holds}
use Rattle.ways.specs.Passes.{refused}
use Rattle.rows.specs.declared.walked.Walked.{Walked}
use Rattle.rows.specs.Rows.{row_at}
use Rattle.rows.specs.RowLaws.{start-of-row}
use Rattle.ways.specs.Written.{Writes, both-written}
use Rattle.walks.specs.Walks.{place_at, Stands, Counted, members_in, WalksMany, walk_own, WalksOwn, opening_bytes, group_bytes, WalksGroup}
use Rattle.walks.specs.RowLaws.{word_behind}
use Rattle.walks.specs.WalkingLaws.{Over, walks-lost, walks-led, walked_over, walk_gone, walk_refused}
use Rattle.walks.specs.OwnWalkLaws.{own_elsewhere}

-- ---- what a group that was met has

-- As many members as were asked for, and words walked over forwards.
record Many (n : ℕ) (p : Place) (os : List Object) (q : Place) : Type 0 where
  counted : length os ≡ n
  forward : p.at ≤ q.at
  left : q.at + length q.bodies ≡ p.at + length p.bodies
  below : Below (2 ^ 32) q.bodies

many_met : (v deep parent n : ℕ) (p : Place) → Below (2 ^ 32) p.bodies → Holding (Many n p) (walk_many n (λ q. walk_object v deep parent q) p)
many_met v deep parent zero p below = record { counted = refl; forward = omega arith; left = refl; below = below }
many_met v deep parent (suc n) p below =
    let each : Place → Walk Object = λ q. walk_object v deep parent q in
    holding_onward (ObjectMet v deep parent p) (Many (suc n) p) (each p) (λ o q. onward (walk_many n each q) (λ os r. met (o ∷ os) r)) (object_holds v deep parent p below)
    (λ o q g.
    let sum = length-append (bodies o v) q.bodies in
    holding_onward (Many n q) (Many (suc n) p) (walk_many n each q) (λ os r. met (o ∷ os) r) (many_met v deep parent n q (over_below p q (rows o) (contents o v parent p.row p.at) (bodies o v) g.over below))
    (λ os r h.
    record {
      counted = ap suc h.counted;
      forward = omega (arith, h.forward, g.over.at);
      left = omega (arith, h.left, g.over.at, ap length g.over.bodies, sum);
      below = h.below;
    }))

-- The row says that the body begins behind the members, and there a count stands.
record Started (words : List ℕ) (p : Place) (t : Objects × String) (q : Place) : Type 0 where
  later : p.at ≤ start_in words 0
  inside : start_in words 0 < p.at + length p.bodies
  allowed : Allowed member_count (get_or p.bodies (start_in words 0 - p.at) 0)

group_started : (v deep own parent : ℕ) (words : List ℕ) (p : Place) → Below (2 ^ 32) p.bodies → Holding (Started words p) (walk_group v (λ q. walk_object v deep own q) parent words p)
group_started v deep own parent words p below =
    let each : Place → Walk Object = λ q. walk_object v deep own q in
    let n = get_or p.bodies (start_in words 0 - p.at) 0 in
    holding_onward (Many n p) (Started words p) (walk_many n each p) (λ os q. onward (body (group_own v) group_kind parent words q) (λ own r. provided (eqb own.0 n) (met (of_list os, own.1) r))) (many_met v deep own n p below)
    (λ os q h.
    holding_onward (BodyMet (group_own v) group_kind parent words q) (Started words p) (body (group_own v) group_kind parent words q) (λ own r. provided (eqb own.0 n) (met (of_list os, own.1) r))
    (body_holds (group_own v) group_kind parent words q h.below)
    (λ own r w.
    let start : start_in words 0 ≡ q.at = ap (λ l. start_in l 0) w.row_is in
    let sum = length-append (words_of (group_own v) own) r.bodies in
    holding_provided (Started words p) (eqb own.0 n) (met (of_list os, own.1) r)
    (λ t.
    record {
      later = omega (arith, start, h.forward);
      inside = omega (arith, start, h.left, ap length w.over.bodies, sum, some_words own);
      allowed = subst (Allowed member_count) (eqb-true own.0 n t) w.good.0;
    })))
  where
    some_words : (own : ℕ × String) → 0 < length (words_of (group_own v) own)
    some_words own = omega arith

-- ---- the group whose row is there

module _ (v deep parent : ℕ) (cs ws : List ℕ) (row at : ℕ) (there : 4 * row + 4 ≤ length cs) (below : Below (2 ^ 32) ws) where
  abbrev each : Place → Walk Object
  each place = walk_object v deep row place

  abbrev walk_here : Walk (Objects × String)
  walk_here = walk_group v each parent (row_at cs row) (place_at cs ws (row + 1) at)

  abbrev n : ℕ
  n = members_in cs ws row

  start_is : start_in (row_at cs row) 0 ≡ start_in cs row
  start_is = start-of-row cs row there

  lost-unless : (at ≤ start_in cs row → Counted ws (start_in cs row) → ⊥) → walk_here ≡ lost
  lost-unless none = by walk_here refl (group_started v deep row parent (row_at cs row) (place_at cs ws (row + 1) at) (below_drop (2 ^ 32) at ws below))
    where
      by : (w : Walk (Objects × String)) → walk_here ≡ w → Holding (Started (row_at cs row) (place_at cs ws (row + 1) at)) w → walk_here ≡ lost
      by lost is h = is
      by (met t q) is h =
          let later : at ≤ start_in cs row = omega (arith, h.later, start_is) in
          let long = length-drop at ws in
          let word : get_or (drop at ws) (start_in (row_at cs row) 0 - at) 0 ≡ n = ap (λ i. get_or (drop at ws) (i - at) 0) start_is ∙ word_behind ws at (start_in cs row) later in
          absurd (none later (record { inside = omega (arith, h.inside, start_is, long, later); allowed = subst (Allowed member_count) word h.allowed }))

  -- No count stands where the row says that the body begins.
  pub group_uncounted : (Counted ws (start_in cs row) → ⊥) → walk_here ≡ lost
  group_uncounted none = lost-unless (λ later. none)

  -- The row says that the body begins before the members.
  too_early : start_in cs row < at → walk_here ≡ lost
  too_early early = lost-unless (λ later counted. omega (arith, early, later))

  behind-members : ℕ → Walk (Objects × String)
  behind-members k =
      onward (walk_many k each (place_at cs ws (row + 1) at)) (λ os q.
      onward (body (group_own v) group_kind parent (row_at cs row) q) (λ own r. provided (eqb own.0 k) (met (of_list os, own.1) r)))

  here : at ≤ start_in cs row → walk_here ≡ behind-members n
  unfolding behind-members
  here later = ap (λ start. behind-members (get_or (drop at ws) (start - at) 0)) start_is ∙ ap behind-members (word_behind ws at (start_in cs row) later)

  module _ {count : ℕ} (count_is : count ≡ members_in cs ws row) {m m' : List ℕ} {to : ℕ} {s : Walked} (walked : WalksMany v deep row count (row + 1) cs ws m m' at to s) where
    walks : WalksMany v deep row n (row + 1) cs ws m m' at to s
    walks = subst (λ k. WalksMany v deep row k (row + 1) cs ws m m' at to s) count_is walked

    none-behind : refused ≤ s.at → behind-members n ≡ lost
    unfolding behind-members
    none-behind gone = ap (λ w. onward w (λ os q. onward (body (group_own v) group_kind parent (row_at cs row) q) (λ own r. provided (eqb own.0 n) (met (of_list os, own.1) r)))) (walk_gone walks gone)

    pub group_members-lost : refused ≤ s.at → walk_here ≡ lost
    group_members-lost gone = by (leb at (start_in cs row)) refl
      where
        by : (t : Bool) → leb at (start_in cs row) ≡ t → walk_here ≡ lost
        by true e = here (leb-true at (start_in cs row) e) ∙ none-behind gone
        by false e = too_early (leb-false at (start_in cs row) e)

    module _ (on : s.at < refused) where
      over : Over (λ os. bytes_of (repeat n (object v deep)) os) (walk_many n each (place_at cs ws (row + 1) at)) cs ws m m' to s
      over = walked_over walks on

      pub members_stand : Stands cs ws s.row s.at s.to
      members_stand = over.here.next

      many : Many n (place_at cs ws (row + 1) at) over.value (place_at cs ws s.row s.at)
      many = subst (Holding (Many n (place_at cs ws (row + 1) at))) over.walk_is (many_met v deep row n (place_at cs ws (row + 1) at) (below_drop (2 ^ 32) at ws below))

      -- With the members, the group is what its own body makes it.
      abbrev named : String → Objects × String
      named d = (of_list over.value, d)

      abbrev walk_end : Walk String
      walk_end = walk_own v parent n (row_at cs row) (place_at cs ws s.row s.at)

      own_named : (w : Walk (ℕ × String)) → onward w (λ own r. provided (eqb own.0 n) (met (named own.1) r))
          ≡ onward (onward w (λ own r. provided (eqb own.0 n) (met own.1 r))) (λ d r. met (named d) r)
      own_named lost = refl
      own_named (met own q) = by (eqb own.0 n)
        where
          by : (t : Bool) → provided t (met (named own.1) q) ≡ onward (provided t (met own.1 q)) (λ d r. met (named d) r)
          by true = refl
          by false = refl

      by_own : at ≤ start_in cs row → walk_here ≡ onward walk_end (λ d r. met (named d) r)
      unfolding behind-members
      by_own later =
          here later
          ∙ ap (λ w. onward w (λ os q. onward (body (group_own v) group_kind parent (row_at cs row) q) (λ own r. provided (eqb own.0 n) (met (of_list os, own.1) r)))) over.walk_is
          ∙ own_named (body (group_own v) group_kind parent (row_at cs row) (place_at cs ws s.row s.at))

      -- The group's bytes: its id, its count, its members and its end.
      abbrev members : List ℕ
      members = bytes_of (repeat n (object v deep)) over.value

      members-counted : length (list_of (of_list over.value)) ≡ n
      members-counted = ap length (list_of_list over.value) ∙ many.counted

      bytes_are : (d : String) → (opening_bytes n ++ members) ++ bytes_of (object_end v) d ≡ group_bytes v deep (named d)
      bytes_are d =
          append_assoc (opening_bytes n) members (bytes_of (object_end v) d)
          ∙ append_assoc (digits 256 2 (code "G")) (digits 256 4 n) (members ++ bytes_of (object_end v) d)
          ∙ ap (λ l. digits 256 2 (code "G") ++ l)
          (ap₂ (λ k os. digits 256 4 k ++ (bytes_of (repeat n (object v deep)) os ++ bytes_of (object_end v) d)) (sym members-counted) (sym (list_of_list over.value))
          ∙ sym (group_body-bytes v deep (of_list over.value) d n))

      pub group_walks : {m₀ m'' : List ℕ} {to₀ : ℕ} {r : Walked} → to ≡ to₀ + 6 → Writes to₀ (opening_bytes count) m₀ m → WalksOwn v parent row s.row cs ws m' m'' s.at s.to r
          → WalksGroup v deep parent row cs ws m₀ m'' at to₀ r
      group_walks {m₀} {m''} {to₀} {r} to_is opening own = by (leb at (start_in cs row)) refl
        where
          opened : Writes to₀ (opening_bytes n) m₀ m
          opened = subst (λ k. Writes to₀ (opening_bytes k) m₀ m) count_is opening

          opening-long : length (opening_bytes n) ≡ 6
          opening-long = length-append (digits 256 2 (code "G")) (digits 256 4 n) ∙ ap₂ ◌+◌ (length_digits 256 2 (code "G")) (length_digits 256 4 n)

          place : to ≡ to₀ + length (opening_bytes n)
          place = omega (arith, to_is, opening-long)

          by : (t : Bool) → leb at (start_in cs row) ≡ t → WalksGroup v deep parent row cs ws m₀ m'' at to₀ r
          by true e =
              let sum = length-append (opening_bytes n) members in
              walks-led named (opening_bytes n ++ members) (omega (arith, over.here.to_is, place, sum)) (both-written place opened over.here.written) (by_own (leb-true at (start_in cs row) e)) (λ d q is. bytes_are d) own
          by false e =
              let early = leb-false at (start_in cs row) e in
              let other : start_in cs row ≡ s.at → ⊥ = λ same. omega (arith, early, same, many.forward) in
              walks-lost (too_early early) (walk_refused own (own_elsewhere v parent cs ws row s.row s.at there other))
              (own.same_length ∙ over.here.written.same_length ∙ opened.same_length)
