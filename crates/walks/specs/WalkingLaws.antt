-- How the code's walk and the definition's go together: a walk that was lost or met something, one walk behind another, and the walk over a body.
use Rattle.std.specs.Prelude.{◌≡◌, refl, Bool, true, false, ℕ, ◌+◌, ◌-◌, ◌*◌, ◌^◌, ◌<◌, ◌≤◌, List, ◌++◌, ltb, length, drop}
use Rattle.std.proofs.Common.{sym, ap, subst, ◌∙◌, arith, length-append, length-drop, ltb-true, ltb-false}
use Rattle.format.specs.Digits.{Below}
use Rattle.format.specs.Codec.{found, and_then}
use Rattle.format.specs.Layout.{Layout}
use Rattle.format.specs.Parse.{parse}
use Rattle.drawing.specs.Reading as Reading
use Rattle.drawing.specs.Limits.{length_limit}
use Rattle.drawing.specs.String.{equal}
use Rattle.drawing.specs.Table as Table
use Rattle.drawing.specs.TableDrawing.{Place, Walk, met, lost, onward, provided, body_from, body}
use Rattle.laws.specs.ObjectBytes.{bytes_of}
use Rattle.ways.specs.declared.Pass.{Pass}
use Rattle.ways.specs.Passes.{refused, Ready}
use Rattle.ways.specs.Carries.{Laid}
use Rattle.ways.specs.FoundLaws.{Unfound}
use Rattle.ways.specs.TableWay.{table_way as way}
use Rattle.rows.specs.declared.walked.Walked.{Walked}
use Rattle.ways.specs.Written.{Writes, both-written, same-written}
use Rattle.walks.specs.Walks.{place_at, Stands, Met, Comes, Walks, Rowed}
use Rattle.walks.specs.BodyLaws.{body-found, body_unfound, found-few}

-- ---- where the walk stands

-- Behind a row that is there, and so many bytes that were written for it.
pub row_stands : {cs ws : List ℕ} {row at to : ℕ} (bytes : ℕ) → bytes ≤ 8 → 4 * row + 4 ≤ length cs → Stands cs ws row at to → Stands cs ws (row + 1) at (to + bytes)
row_stands bytes small there stands =
    record { short = stands.short; inside = stands.inside; short-rows = stands.short-rows; rows_inside = omega (arith, there); few = omega (arith, small, stands.few) }

-- A pass over the words can begin there, or so many words further.
pub stands_ready : {cs ws : List ℕ} {row at to : ℕ} (more : ℕ) → at + more ≤ length ws → Stands cs ws row at to → Ready (length ws) (at + more) to
stands_ready {row = row} more inside stands =
    let short = stands.short in
    let rows : row ≤ length_limit = omega (arith, stands.short-rows, stands.rows_inside) in
    record { short = short; near = omega arith; inside = λ h. inside; few = λ h. omega (arith, stands.few, rows, stands.inside) }

-- ---- what was walked over, as the definition's walk

module _ {A : Type 0} {bytes_in : A → List ℕ} {walk : Walk A} {cs ws m m' : List ℕ} {to : ℕ} {r : Walked} where
  pub walks-lost : walk ≡ lost → refused ≤ r.at → length m' ≡ length m → Walks bytes_in walk cs ws m m' to r
  walks-lost is gone same = record { comes = subst (Comes bytes_in cs ws m m' to r) (sym is) gone; same_length = same }

  pub walks_met : {a : A} {q : Place} → walk ≡ met a q → Met bytes_in cs ws m m' to r a q → Walks bytes_in walk cs ws m m' to r
  walks_met is here = record { comes = subst (Comes bytes_in cs ws m m' to r) (sym is) here; same_length = here.written.same_length }

-- A walk that went on has met something, and one that did not is lost.
pub record Over {A : Type 0} (bytes_in : A → List ℕ) (walk : Walk A) (cs ws m m' : List ℕ) (to : ℕ) (r : Walked) : Type 0 where
  pub value : A
  pub walk_is : walk ≡ met value (place_at cs ws r.row r.at)
  pub here : Met bytes_in cs ws m m' to r value (place_at cs ws r.row r.at)

module _ {A : Type 0} {bytes_in : A → List ℕ} {walk : Walk A} {cs ws m m' : List ℕ} {to : ℕ} {r : Walked} (walks : Walks bytes_in walk cs ws m m' to r) where
  pub walked_over : r.at < refused → Over bytes_in walk cs ws m m' to r
  walked_over on = by walk refl walks.comes
    where
      by : (w : Walk A) → walk ≡ w → Comes bytes_in cs ws m m' to r w → Over bytes_in walk cs ws m m' to r
      by (met a q) is here =
          record { value = a; walk_is = is ∙ ap (λ q. met a q) here.place_is; here = subst (Met bytes_in cs ws m m' to r a) here.place_is here }
      by lost is gone = absurd (omega (arith, on, gone))

  pub walk_gone : refused ≤ r.at → walk ≡ lost
  walk_gone gone = by walk refl walks.comes
    where
      by : (w : Walk A) → walk ≡ w → Comes bytes_in cs ws m m' to r w → walk ≡ lost
      by (met a q) is here = absurd (omega (arith, gone, here.next.inside, here.next.short))
      by lost is lost-here = is

  pub walk_refused : walk ≡ lost → refused ≤ r.at
  walk_refused is = subst (Comes bytes_in cs ws m m' to r) is walks.comes

-- ---- one walk behind another

pub onward_met : {A : Type 0} (w : Walk A) → onward w (λ a q. met a q) ≡ w
onward_met (met a q) = refl
onward_met lost = refl

pub onward-same : {A B : Type 0} (w : Walk A) {f g : A → Place → Walk B} → ((a : A) (q : Place) → f a q ≡ g a q) → onward w f ≡ onward w g
onward-same (met a q) same = same a q
onward-same lost same = refl

pub onward-onward : {A B C : Type 0} (w : Walk A) (f : A → Place → Walk B) (g : B → Place → Walk C) → onward (onward w f) g ≡ onward w (λ a q. onward (f a q) g)
onward-onward (met a q) f g = refl
onward-onward lost f g = refl

-- The same walk for values made of the first ones, whose bytes stand behind others that were written before.
pub walks-led : {A B : Type 0} {bytes_in : A → List ℕ} {bytes_out : B → List ℕ} {walk : Walk A} {walk' : Walk B} (make : A → B) (front : List ℕ) {cs ws m₀ m m' : List ℕ} {to₀ to : ℕ} {r : Walked}
    → to ≡ to₀ + length front → Writes to₀ front m₀ m → walk' ≡ onward walk (λ a q. met (make a) q)
    → ((a : A) (q : Place) → walk ≡ met a q → front ++ bytes_in a ≡ bytes_out (make a))
    → Walks bytes_in walk cs ws m m' to r → Walks bytes_out walk' cs ws m₀ m' to₀ r
walks-led {A} {B} {bytes_in} {bytes_out} {walk} {walk'} make front {cs} {ws} {m₀} {m} {m'} {to₀} {to} {r} place written made bytes walks = by walk refl walks.comes
  where
    by : (w : Walk A) → walk ≡ w → Comes bytes_in cs ws m m' to r w → Walks bytes_out walk' cs ws m₀ m' to₀ r
    by (met a q) is here =
        let same = bytes a q is in
        let sum = length-append front (bytes_in a) in
        walks_met (made ∙ ap (λ w. onward w (λ a q. met (make a) q)) is)
        (record {
          place_is = here.place_is;
          to_is = omega (arith, here.to_is, place, sum, ap length same);
          written = same-written same (both-written place written here.written);
          next = here.next;
        })
    by lost is gone = walks-lost (made ∙ ap (λ w. onward w (λ a q. met (make a) q)) is) gone (walks.same_length ∙ written.same_length)

-- ---- a body

-- The fields of L were passed, which are the last of the body G, or all of it; and its row was looked at.
module _ {A B C : Type 0} (L : Layout A) (G : Layout B) (make : A → B) (then : B → Place → Walk C) (value : A → C) (cs ws words : List ℕ) (kind parent next at place : ℕ)
    (below : Below (2 ^ 32) ws) (later : at ≤ place) (inside : place ≤ length ws)
    (parts : parse Reading.words G (drop at ws) ≡ and_then (parse Reading.words L (drop place ws)) (λ a rest. found (make a) rest))
    (whole : (a : A) (q : Place) → then (make a) q ≡ met (value a) q) where
  abbrev walk_here : Walk C
  walk_here = onward (body G kind parent words (place_at cs ws next at)) then

  body-lost : {at' to' : ℕ} → Unfound L way ws place at' to' → walk_here ≡ lost
  body-lost none = ap (λ o. onward (body_from kind parent words (place_at cs ws next at) o) then) (parts ∙ ap (λ o. and_then o (λ a rest. found (make a) rest)) none.parsed)

  by_row : (end : ℕ) (a : A) → place ≤ end → end ≤ length ws → parse Reading.words L (drop place ws) ≡ found a (drop end ws)
      → walk_here ≡ onward (provided (equal words (Table.row kind parent at (end - at))) (met (make a) (place_at cs ws next end))) then
  by_row end a forward short parsed =
      let used : length (drop at ws) - length (drop end ws) ≡ end - at = rw (length-drop at ws, length-drop end ws) (omega arith) in
      let behind : at + (end - at) ≡ end = omega arith in
      ap (λ o. onward (body_from kind parent words (place_at cs ws next at) o) then) (parts ∙ ap (λ o. and_then o (λ a rest. found (make a) rest)) parsed)
      ∙ ap (λ k. onward (provided (equal words (Table.row kind parent at k)) (met (make a) (record { row = next; contents = (place_at cs ws next at).contents; at = at + k; bodies = drop end ws }))) then) used
      ∙ ap (λ k. onward (provided (equal words (Table.row kind parent at (end - at))) (met (make a) (record { row = next; contents = (place_at cs ws next at).contents; at = k; bodies = drop end ws }))) then) behind

  pub body-walks : {bytes_in : C → List ℕ} {m m' : List ℕ} {to : ℕ} {b : Pass} {r : Walked} → ((a : A) → bytes_in (value a) ≡ bytes_of L a) → Stands cs ws next at to
      → Laid L.format way ws m m' place to b.at b.to → Rowed words kind parent at next b r → Walks bytes_in walk_here cs ws m m' to r
  body-walks {bytes_in} {m} {m'} {to} {b} {r} bytes stands laid rowed = by (ltb b.at refused) refl
    where
      same : length m' ≡ length m
      same = laid.carried.same_length

      right_or_wrong : b.at < refused → (t : Bool) → equal words (Table.row kind parent at (b.at - at)) ≡ t → Walks bytes_in (onward (body G kind parent words (place_at cs ws next at)) then) cs ws m m' to r
      right_or_wrong on false e =
          let f = body-found L below inside laid on in
          walks-lost
          (by_row b.at f.0 (omega (arith, f.1.at-is)) f.1.inside f.1.parsed ∙ ap (λ t. onward (provided t (met (make f.0) (place_at cs ws next b.at))) then) e)
          (rowed.wrong e) same
      right_or_wrong on true e =
          let f = body-found L below inside laid on in
          let is = rowed.right on e in
          let here : Met bytes_in cs ws m m' to (record { row = next; at = b.at; to = b.to }) (value f.0) (place_at cs ws next b.at) =
          record {
            place_is = refl;
            to_is = f.1.to_is ∙ ap (λ l. to + length l) (sym (bytes f.0));
            written = same-written (sym (bytes f.0)) f.1.written;
            next =
                record {
                  short = stands.short;
                  inside = f.1.inside;
                  short-rows = stands.short-rows;
                  rows_inside = stands.rows_inside;
                  few = omega (arith, f.1.to_is, found-few L f.1, f.1.at-is, stands.few, later);
                };
          } in
          walks_met
          (by_row b.at f.0 (omega (arith, f.1.at-is)) f.1.inside f.1.parsed ∙ ap (λ t. onward (provided t (met (make f.0) (place_at cs ws next b.at))) then) e ∙ whole f.0 (place_at cs ws next b.at))
          (subst (λ r. Met bytes_in cs ws m m' to r (value f.0) (place_at cs ws next b.at)) (sym is) here)

      by : (t : Bool) → ltb b.at refused ≡ t → Walks bytes_in (onward (body G kind parent words (place_at cs ws next at)) then) cs ws m m' to r
      by true e = right_or_wrong (ltb-true b.at refused e) (equal words (Table.row kind parent at (b.at - at))) refl
      by false e = let gone = ltb-false b.at refused e in walks-lost (body-lost (body_unfound L below inside laid gone)) (rowed.gone gone) same
