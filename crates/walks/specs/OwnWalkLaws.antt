-- The walk over a group's own body: its count, which was judged before, its end, and its row.
use Rattle.std.specs.Prelude.{◌≡◌, refl, Bool, true, false, ℕ, ◌+◌, ◌-◌, ◌*◌, ◌/◌, ◌^◌, ◌<◌, ◌≤◌, List, eqb, pos, length, drop, get_or}
use Rattle.std.proofs.Common.{sym, ap, subst, ◌∙◌, arith, to_z, eq-eqb, eqb-true}
use Rattle.std.proofs.lemmas.Bool.{false≢true, eqb-false}
use Rattle.std.specs.Int.Signed.{le_z}
use Rattle.std.specs.Int.{w32}
use Rattle.format.specs.Digits.{Below}
use Rattle.format.specs.LeafLaws.{field-one, field_below}
use Rattle.format.specs.LiteralLaws.{read_value}
use Rattle.format.specs.Kind.{size}
use Rattle.format.specs.Codec.{Outcome, found, refused, and_then}
use Rattle.format.specs.Layout.{field}
use Rattle.format.specs.Parse.{parse}
use Rattle.format.specs.ParsingLaws.{parse-field, parse_pair}
use Rattle.drawing.specs.Reading as Reading
use Rattle.drawing.specs.Fields.{member_count, unless}
use Rattle.drawing.specs.String.{String}
use Rattle.drawing.specs.LeafLayout.{object_end}
use Rattle.drawing.specs.Table.{group_kind, group_own, start_in}
use Rattle.drawing.specs.TableDrawing.{Place, Walk, met, lost, onward, provided, body_from}
use Rattle.ways.specs.declared.Pass.{Pass}
use Rattle.ways.specs.Passes as R
use Rattle.ways.specs.Carries.{Laid}
use Rattle.ways.specs.TableWay.{table_way as way}
use Rattle.rows.specs.declared.walked.Walked.{Walked}
use Rattle.rows.specs.Rows.{row_at}
use Rattle.rows.specs.RowLaws.{other-start}
use Rattle.walks.specs.Walks.{place_at, Stands, Counted, Counts, Rowed, members_in, walk_own, WalksOwn}
use Rattle.walks.specs.WalkingLaws.{walks-lost, body-walks}

-- ---- the count

-- Whether one stands here.
pub count-here : (ws : List ℕ) (start : ℕ) {word : ℕ} {r : Bool} → start < length ws → Below (2 ^ 32) ws → word ≡ get_or ws start 0 → r ≡ le_z (pos 0) (to_z w32 word) → Counts ws start r
count-here ws start inside below word-is is =
    let there : start + 1 ≤ length ws = omega arith in
    let small : get_or ws start 0 < (2 ^ 32) ^ 1 = subst (λ v. v < (2 ^ 32) ^ 1) (field-one (2 ^ 32) ws start there) (field_below (2 ^ 32) ws start 1 there below) in
    let told = is ∙ ap (λ w. le_z (pos 0) (to_z w32 w)) word-is in
    record {
      yes = λ t. record { inside = inside; allowed = record { fits = omega arith; faultless = ap (λ b. unless b 8) (sym told ∙ t) } };
      no = λ f counted. let z : ◌≡◌ {A = ℕ} 8 0 = sym (ap (λ b. unless b 8) (sym told ∙ f)) ∙ counted.allowed.faultless in omega arith;
    }

pub no_count-here : (ws : List ℕ) (start : ℕ) → length ws ≤ start → Counts ws start false
no_count-here ws start ended = record { yes = λ t. absurd (false≢true t); no = λ f counted. omega (arith, ended, counted.inside) }

-- Where one stands it is read.
count-parse : (ws : List ℕ) (at : ℕ) → Counted ws at → parse Reading.words (field member_count) (drop at ws) ≡ found (get_or ws at 0) (drop (at + 1) ws)
count-parse ws at counted =
    parse-field Reading.words member_count (drop at ws)
    ∙ read_value (2 ^ 32) (λ s. (size s + 3) / 4) (λ s x. x) 16 16 ws at member_count (get_or ws at 0) (omega (arith, counted.inside)) (sym (field-one (2 ^ 32) ws at (omega (arith, counted.inside)))) counted.allowed

-- ---- the body

module _ (v parent : ℕ) (cs ws : List ℕ) (row next at : ℕ) (there : 4 * row + 4 ≤ length cs) where
  abbrev walk_here : Walk String
  walk_here = walk_own v parent (members_in cs ws row) (row_at cs row) (place_at cs ws next at)

  abbrev then : ℕ × String → Place → Walk String
  then own q = provided (eqb own.0 (members_in cs ws row)) (met own.1 q)

  -- The row tells of another place.
  pub own_elsewhere : (start_in cs row ≡ at → ⊥) → walk_here ≡ lost
  own_elsewhere other = by (parse Reading.words (group_own v) (drop at ws))
    where
      by : (o : Outcome (ℕ × String)) → onward (body_from group_kind parent (row_at cs row) (place_at cs ws next at) o) then ≡ lost
      by (refused n place) = refl
      by (found own rest) =
          let used = length (drop at ws) - length rest in
          ap (λ t. onward (provided t (met own (record { row = next; contents = (place_at cs ws next at).contents; at = at + used; bodies = rest }))) then) (other-start cs row there group_kind parent at used other)

  -- There is no word more, where there should be the count.
  pub own_ended : {m : List ℕ} {to : ℕ} {r : Walked} → Counted ws (start_in cs row) → length ws ≤ at → R.refused ≤ r.at → WalksOwn v parent row next cs ws m m at to r
  own_ended counted ended gone = walks-lost (own_elsewhere (λ same. omega (arith, same, ended, counted.inside))) gone refl

  own_parse : Counted ws (start_in cs row) → start_in cs row ≡ at
      → parse Reading.words (group_own v) (drop at ws) ≡ and_then (parse Reading.words (object_end v) (drop (at + 1) ws)) (λ d rest. found (members_in cs ws row, d) rest)
  own_parse counted same =
      parse_pair Reading.words (field member_count) (λ n. object_end v) (drop at ws)
      ∙ ap (λ o. and_then o (λ n rest. and_then (parse Reading.words (object_end v) rest) (λ d rest₂. found (n, d) rest₂))) (count-parse ws at (subst (Counted ws) same counted))
      ∙ ap (λ n. and_then (parse Reading.words (object_end v) (drop (at + 1) ws)) (λ d rest. found (get_or ws n 0, d) rest)) (sym same)

  pub own_walks : {m m' : List ℕ} {to : ℕ} {b : Pass} {r : Walked} → Below (2 ^ 32) ws → Stands cs ws next at to → Counted ws (start_in cs row) → at < length ws
      → Laid (object_end v).format way ws m m' (at + 1) to b.at b.to → Rowed (row_at cs row) group_kind parent at next b r → WalksOwn v parent row next cs ws m m' at to r
  own_walks {m} {m'} {to} {b} {r} below stands counted more laid rowed = by (eqb (start_in cs row) at) refl
    where
      by : (t : Bool) → eqb (start_in cs row) at ≡ t → WalksOwn v parent row next cs ws m m' at to r
      by true e =
          body-walks (object_end v) (group_own v) (λ d. (members_in cs ws row, d)) then (λ d. d) cs ws (row_at cs row) group_kind parent next at (at + 1) below (omega arith) (omega (arith, more))
          (own_parse counted (eqb-true (start_in cs row) at e)) (λ d q. ap (λ t. provided t (met d q)) (eq-eqb (members_in cs ws row) (members_in cs ws row) refl)) (λ d. refl) stands laid rowed
      by false e =
          let other : start_in cs row ≡ at → ⊥ = eqb-false (start_in cs row) at e in
          walks-lost (own_elsewhere other) (rowed.wrong (other-start cs row there group_kind parent at (b.at - at) other)) laid.carried.same_length
