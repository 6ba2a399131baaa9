-- The walk over a whole table: its outer group with its ends, and before it the head.
use Rattle.std.specs.Prelude.{◌≡◌, refl, Bool, true, false, cond, ◌&&◌, ℕ, zero, suc, ◌+◌, ◌-◌, ◌*◌, ◌/◌, ◌%◌, ◌^◌, ◌<◌, ◌≤◌, List, [], ◌∷◌, ◌++◌, ltb, leb, length, drop, get_or}
use Rattle.std.proofs.Common.{sym, ap, ap₂, subst, ◌∙◌, arith, append_assoc, length-append, length-drop, ltb-true, ltb-false, leb-true, leb-false}
use Rattle.std.proofs.Math.Option.{Option, none, some}
use Rattle.format.specs.Digits.{Below, digits}
use Rattle.format.specs.LeafLaws.{digits-add}
use Rattle.format.specs.Pass.{put}
use Rattle.format.specs.Codec.{found, and_then}
use Rattle.format.specs.Layout.{field}
use Rattle.format.specs.Parse.{parse}
use Rattle.format.specs.ParsingLaws.{parse_pair}
use Rattle.drawing.specs.Reading as Reading
use Rattle.drawing.specs.Limits.{last_minor, depth_limit, length_limit}
use Rattle.drawing.specs.Fields.{integer_in, jdr, version_zero}
use Rattle.drawing.specs.FieldLaws.{and_both}
use Rattle.drawing.specs.String.{String, equal}
use Rattle.drawing.specs.Settings.{Settings, settings}
use Rattle.drawing.specs.Object.{Objects}
use Rattle.drawing.specs.Drawing.{Drawing, file_of, outer}
use Rattle.drawing.specs.Table.{head_words}
use Rattle.drawing.specs.TableDrawing.{Place, Walk, met, lost, onward, provided, walk_group, walk_object, table_head, walk_outer, whole_table, behind_head, drawing_of_table}
use Rattle.drawing.specs.Answers.{rows_of, word_count}
use Rattle.laws.specs.FileGood.{minor_small}
use Rattle.laws.specs.ObjectBytes.{bytes_of, file-bytes}
use Rattle.laws.specs.OrderLaws.{contents-length}
use Rattle.laws.specs.TableLaws.{drawing-of_table}
use Rattle.ways.specs.declared.FieldPass.{FieldPass}
use Rattle.ways.specs.Passes.{refused}
use Rattle.ways.specs.FoundLaws.{Found, Unfound}
use Rattle.ways.specs.TableWay.{table_way as way}
use Rattle.rows.specs.declared.walked.Walked.{Walked}
use Rattle.rows.specs.Rows.{row_at}
use Rattle.ways.specs.Written.{Writes, put_written, both-written, same-written}
use Rattle.walks.specs.Walks.{place_at, Stands, Comes, group_bytes, WalksGroup}
use Rattle.walks.specs.RowLaws.{row_met, row-lost}
use Rattle.walks.specs.BodyLaws.{found-few}
use Rattle.walks.specs.WalkingLaws.{walks-lost, walks_met, walked_over, walk_gone}
use Rattle.walks.specs.FileWalks.{head_bytes, walk_whole, WalksOuter, Whole, TableComes, WalksTable}

-- ---- the ends of the two runs

nothing_left : (n : ℕ) (l : List ℕ) → equal (drop n l) [] ≡ leb (length l) n
nothing_left n l = by (leb (length l) n) refl
  where
    some_left : (n : ℕ) (l : List ℕ) → n < length l → equal (drop n l) [] ≡ false
    some_left zero [] h = absurd (omega arith)
    some_left zero (x ∷ xs) h = refl
    some_left (suc n) [] h = absurd (omega arith)
    some_left (suc n) (x ∷ xs) h = some_left n xs (omega arith)

    none_left : (n : ℕ) (l : List ℕ) → length l ≤ n → equal (drop n l) [] ≡ true
    none_left zero [] h = refl
    none_left zero (x ∷ xs) h = absurd (omega arith)
    none_left (suc n) [] h = refl
    none_left (suc n) (x ∷ xs) h = none_left n xs (omega arith)

    by : (t : Bool) → leb (length l) n ≡ t → equal (drop n l) [] ≡ t
    by true e = none_left n l (leb-true (length l) n e)
    by false e = some_left n l (leb-false (length l) n e)

-- ---- the outer group

module _ (v : ℕ) (cs ws : List ℕ) (at to : ℕ) where
  abbrev whole : Walk (Objects × String) → Walk (Objects × String)
  whole w = onward w (λ t q. provided (equal q.contents [] && equal q.bodies [] && leb (to + length (group_bytes v (depth_limit - 1) t)) length_limit) (met t q))

  pub outer-short : length cs < 4 → walk_whole v cs ws at to ≡ lost
  outer-short short = ap (λ w. whole (onward w (λ words q. walk_group v (λ r. walk_object v (depth_limit - 1) 0 r) 0 words q))) (row-lost cs ws 0 at short)

  module _ (there : 4 ≤ length cs) {m m' : List ℕ} {s : Walked} (walks : WalksGroup v (depth_limit - 1) 0 0 cs ws m m' at to s) where
    from_group : walk_whole v cs ws at to ≡ whole (walk_group v (λ r. walk_object v (depth_limit - 1) 0 r) 0 (row_at cs 0) (place_at cs ws 1 at))
    from_group = ap (λ w. whole (onward w (λ words q. walk_group v (λ r. walk_object v (depth_limit - 1) 0 r) 0 words q))) (row_met cs ws 0 at there)

    abbrev ends : Bool
    ends = leb (length cs) (4 * s.row) && leb (length ws) s.at && leb s.to length_limit

    by-ends : (on : s.at < refused) → walk_whole v cs ws at to ≡ provided ends (met (walked_over walks on).value (place_at cs ws s.row s.at))
    by-ends on =
        let over = walked_over walks on in
        let here = place_at cs ws s.row s.at in
        from_group
        ∙ ap whole over.walk_is
        ∙ ap₂ (λ t u. provided (t && u && leb (to + length (group_bytes v (depth_limit - 1) over.value)) length_limit) (met over.value here)) (nothing_left (4 * s.row) cs) (nothing_left s.at ws)
        ∙ ap (λ n. provided (leb (length cs) (4 * s.row) && leb (length ws) s.at && leb n length_limit) (met over.value here)) (sym over.here.to_is)

    pub outer-whole : (ltb s.at refused && ends) ≡ true → WalksOuter v cs ws m m' at to s
    outer-whole is =
        let parts = and_both (ltb s.at refused) ends is in
        let on = ltb-true s.at refused parts.0 in
        let over = walked_over walks on in
        walks_met (by-ends on ∙ ap (λ t. provided t (met over.value (place_at cs ws s.row s.at))) parts.1) over.here

    pub outer_partly : {r : Walked} → (ltb s.at refused && ends) ≡ false → refused ≤ r.at → WalksOuter v cs ws m m' at to r
    outer_partly {r} is gone = by (ltb s.at refused) refl is
      where
        by : (t : Bool) → ltb s.at refused ≡ t → (t && ends) ≡ false → WalksOuter v cs ws m m' at to r
        by true e left =
            let on = ltb-true s.at refused e in
            walks-lost (by-ends on ∙ ap (λ t. provided t (met (walked_over walks on).value (place_at cs ws s.row s.at))) left) gone walks.same_length
        by false e left = walks-lost (from_group ∙ ap whole (walk_gone walks (ltb-false s.at refused e))) gone walks.same_length

    -- The row is small where the walk went on.
    pub outer_rows : s.at < refused → s.row ≤ length_limit
    outer_rows on = let next = (walked_over walks on).here.next in omega (arith, next.rows_inside, next.short-rows)

-- ---- the head

module _ {cs ws m m' : List ℕ} {r : Walked} where
  pub table_lost : drawing_of_table cs ws ≡ none → refused ≤ r.at → length m' ≡ length m → WalksTable cs ws m m' r
  table_lost is gone same = record { comes = subst (TableComes m m' r) (sym is) gone; same_length = same }

  table_whole : {d : Drawing} → drawing_of_table cs ws ≡ some d → Whole d m m' r → WalksTable cs ws m m' r
  table_whole is whole = record { comes = subst (TableComes m m' r) (sym is) whole; same_length = whole.written.same_length }

module _ (cs ws : List ℕ) where
  head-parse : parse Reading.words table_head ws
      ≡ and_then (parse Reading.words (field (integer_in 0 last_minor)) ws) (λ v rest. and_then (parse Reading.words (settings v) rest) (λ s rest₂. found (v, s) rest₂))
  head-parse = parse_pair Reading.words (field (integer_in 0 last_minor)) settings ws

  pub version_unfound : {at to : ℕ} → Unfound (field (integer_in 0 last_minor)) way ws 0 at to → drawing_of_table cs ws ≡ none
  version_unfound u =
      ap (behind_head cs (length ws))
      (head-parse ∙ ap (λ o. and_then o (λ v rest. and_then (parse Reading.words (settings v) rest) (λ s rest₂. found (v, s) rest₂))) u.parsed)

  module _ {m₀ m₀' : List ℕ} {q : FieldPass} (told : Found (field (integer_in 0 last_minor)) way ws m₀ m₀' 0 0 q.pass.at q.pass.to q.value) where
    pub version-small : q.value ≤ last_minor
    version-small = minor_small q.value told.good

    behind-version : parse Reading.words table_head ws ≡ and_then (parse Reading.words (settings q.value) (drop q.pass.at ws)) (λ s rest₂. found (q.value, s) rest₂)
    behind-version =
        head-parse
        ∙ ap (λ o. and_then o (λ v rest. and_then (parse Reading.words (settings v) rest) (λ s rest₂. found (v, s) rest₂))) told.parsed

    pub settings_unfound : {at to : ℕ} → Unfound (settings q.value) way ws q.pass.at at to → drawing_of_table cs ws ≡ none
    settings_unfound u = ap (behind_head cs (length ws)) (behind-version ∙ ap (λ o. and_then o (λ s rest₂. found (q.value, s) rest₂)) u.parsed)

    module _ {m₁ m₂ : List ℕ} {at to : ℕ} {s : Settings} (settled : Found (settings q.value) way ws m₁ m₂ q.pass.at 16 at to s) where
      -- Behind the head, the outer group.
      from-head : drawing_of_table cs ws ≡ whole_table q.value s (walk_outer q.value (place_at cs ws 0 at))
      from-head =
          let place : length ws - length (drop at ws) ≡ at = rw length-drop (omega (arith, settled.inside)) in
          ap (behind_head cs (length ws)) (behind-version ∙ ap (λ o. and_then o (λ s rest₂. found (q.value, s) rest₂)) settled.parsed)
          ∙ ap (λ n. whole_table q.value s (walk_outer q.value (record { row = 0; contents = cs; at = n; bodies = drop at ws }))) place

      pub outer_stands : length ws ≤ length_limit → length cs ≤ 4 * length_limit → Stands cs ws 0 at to
      outer_stands short short-rows =
          record {
            short = short;
            inside = settled.inside;
            short-rows = short-rows;
            rows_inside = omega arith;
            few = omega (arith, settled.to_is, found-few (settings q.value) settled, settled.at-is);
          }

      abbrev drawn : Objects × String → Drawing
      drawn t = record { version = q.value; settings = s; members = t.0; description = t.1 }

      -- The file: its head, its settings and its outer group.
      bytes_are : (t : Objects × String) → head_bytes q.value ++ (bytes_of (settings q.value) s ++ group_bytes q.value (depth_limit - 1) t) ≡ file_of (drawn t)
      bytes_are t =
          let rest = bytes_of (settings q.value) s ++ group_bytes q.value (depth_limit - 1) t in
          append_assoc (digits 256 6 jdr) (digits 256 4 3 ++ digits 256 6 (version_zero + q.value)) rest
          ∙ ap (λ l. digits 256 6 jdr ++ l) (append_assoc (digits 256 4 3) (digits 256 6 (version_zero + q.value)) rest)
          ∙ sym (file-bytes (drawn t))

      file-length : (t : Objects × String) → length (file_of (drawn t)) ≡ to + length (group_bytes q.value (depth_limit - 1) t)
      file-length t =
          let head : length (head_bytes q.value) ≡ 16 = refl in
          let sum = length-append (head_bytes q.value) (bytes_of (settings q.value) s ++ group_bytes q.value (depth_limit - 1) t) in
          let behind = length-append (bytes_of (settings q.value) s) (group_bytes q.value (depth_limit - 1) t) in
          omega (arith, settled.to_is, head, sum, behind, ap length (bytes_are t))

      -- The definition's drawing, by the walk that ends with the table.
      abbrev drawing : Walk (Objects × String) → Option Drawing
      drawing lost = none
      drawing (met t p) = some (drawn t)

      by_walk : drawing_of_table cs ws ≡ drawing (walk_whole q.value cs ws at to)
      by_walk = from-head ∙ by (walk_outer q.value (place_at cs ws 0 at))
        where
          tested : (t : Bool) (x : Objects × String) (p : Place) → cond t (some (drawn x)) none ≡ drawing (provided t (met x p))
          tested true x p = refl
          tested false x p = refl

          by : (w : Walk (Objects × String)) → whole_table q.value s w ≡ drawing (whole q.value cs ws at to w)
          by lost = refl
          by (met t p) =
              ap (λ n. cond (equal p.contents [] && equal p.bodies [] && leb n length_limit) (some (drawn t)) none) (file-length t)
              ∙ tested (equal p.contents [] && equal p.bodies [] && leb (to + length (group_bytes q.value (depth_limit - 1) t)) length_limit) t p

      pub table_walks : {m m₃ : List ℕ} {r : Walked} → Below (2 ^ 32) ws → Writes 0 (head_bytes q.value) m m₁ → WalksOuter q.value cs ws m₂ m₃ at to r → WalksTable cs ws m m₃ r
      table_walks {m} {m₃} {r} below headed walks = by (walk_whole q.value cs ws at to) refl walks.comes
        where
          ended-there : (w : Walk (Objects × String)) (t : Objects × String) (p : Place) → whole q.value cs ws at to w ≡ met t p → (equal p.contents [] ≡ true) × (equal p.bodies [] ≡ true)
          ended-there lost t p e = let z : ◌≡◌ {A = ℕ} 0 1 = cc in absurd (omega arith)
          ended-there (met x y) t p e =
              let long = leb (to + length (group_bytes q.value (depth_limit - 1) x)) length_limit in
              by-test (equal y.contents []) (equal y.bodies []) long refl refl e
            where
              by-test : (a b c : Bool) → equal y.contents [] ≡ a → equal y.bodies [] ≡ b → provided (a && b && c) (met x y) ≡ met t p → (equal p.contents [] ≡ true) × (equal p.bodies [] ≡ true)
              by-test true true true f g h = let same : y ≡ p = cc in (ap (λ (p : Place). equal p.contents []) (sym same) ∙ f, ap (λ (p : Place). equal p.bodies []) (sym same) ∙ g)
              by-test true true false f g h = let z : ◌≡◌ {A = ℕ} 0 1 = cc in absurd (omega arith)
              by-test true false c f g h = let z : ◌≡◌ {A = ℕ} 0 1 = cc in absurd (omega arith)
              by-test false b c f g h = let z : ◌≡◌ {A = ℕ} 0 1 = cc in absurd (omega arith)

          by : (w : Walk (Objects × String)) → walk_whole q.value cs ws at to ≡ w → Comes (group_bytes q.value (depth_limit - 1)) cs ws m₂ m₃ to r w → WalksTable cs ws m m₃ r
          by lost is gone = table_lost (by_walk ∙ ap drawing is) gone (walks.same_length ∙ settled.written.same_length ∙ headed.same_length)
          by (met t p) is here =
              let d = drawn t in
              let drawing-is : drawing_of_table cs ws ≡ some d = by_walk ∙ ap drawing is in
              let table = (drawing-of_table cs ws below d).0 drawing-is in
              let rows : length cs ≡ 4 * rows_of d = ap length table.contents-are ∙ contents-length (outer d) d.version 0 0 (length (head_words d)) in
              let words : length ws ≡ word_count d = ap length table.bodies-are in
              let last = ended-there (walk_outer q.value (place_at cs ws 0 at)) t p is in
              let no_rows : length cs ≤ 4 * r.row = leb-true (length cs) (4 * r.row) (sym (nothing_left (4 * r.row) cs) ∙ ap (λ (p : Place). equal p.contents []) (sym here.place_is) ∙ last.0) in
              let no_words : length ws ≤ r.at = leb-true (length ws) r.at (sym (nothing_left r.at ws) ∙ ap (λ (p : Place). equal p.bodies []) (sym here.place_is) ∙ last.1) in
              let next = here.next in
              table_whole drawing-is
              (record {
                on = omega (arith, next.inside, next.short);
                to_is = here.to_is ∙ sym (file-length t);
                rows_are = omega (arith, rows, no_rows, next.rows_inside);
                words_are = omega (arith, words, no_words, next.inside);
                written = same-written (bytes_are t) (both-written refl headed (both-written settled.to_is settled.written here.written));
              })

-- ---- six bytes, as two and four

module _ (v : ℕ) (small : v < 256 ^ 6) where
  abbrev high : ℕ
  high = get_or (digits (2 ^ 32) 2 v) 0 0

  abbrev low : ℕ
  low = get_or (digits (2 ^ 32) 2 v) 1 0

  six : digits 256 2 high ++ digits 256 4 low ≡ digits 256 6 v
  six =
      let upper : high ≡ v / 256 ^ 4 = omega arith in
      let lower : low ≡ v % 256 ^ 4 = omega arith in
      ap₂ (λ a b. digits 256 2 a ++ digits 256 4 b) upper lower ∙ sym (digits-add 256 (omega arith) 2 4 v)

  pub chars-written : {a b to : ℕ} {m m' m'' : List ℕ} → a ≡ high → b ≡ low → m' ≡ put to (digits 256 2 a) m → m'' ≡ put (to + 2) (digits 256 4 b) m' → Writes to (digits 256 6 v) m m''
  chars-written {a} {b} upper lower first second =
      same-written (ap₂ (λ a b. digits 256 2 a ++ digits 256 4 b) upper lower ∙ six) (both-written refl (put_written (digits 256 2 a) first) (put_written (digits 256 4 b) second))
