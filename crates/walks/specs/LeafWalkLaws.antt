-- The walk over a leaf: its row tells which leaf it is, and its body has to stand where the row says.
use Rattle.std.specs.Prelude.{◌≡◌, refl, Bool, true, false, ℕ, ◌+◌, ◌*◌, ◌^◌, ◌≤◌, List, ◌++◌, leb, length, drop}
use Rattle.std.proofs.Math.Path.{sym, ap}
use Rattle.std.proofs.Common.{subst, ◌∙◌, arith, leb-true, leb-false}
use Rattle.format.specs.AlternativeLaws.{chosen_tells}
use Rattle.format.specs.Digits.{Below, digits}
use Rattle.format.specs.DigitsLaws.{length_digits}
use Rattle.format.specs.LeafLaws.{below_drop}
use Rattle.format.specs.Parse.{parse}
use Rattle.format.specs.ParsingLaws.{and_then_found}
use Rattle.format.specs.Pass.{put}
use Rattle.drawing.specs.Reading as Reading
use Rattle.drawing.specs.String.{String}
use Rattle.drawing.specs.Object.{Leaf, Object, leaf}
use Rattle.drawing.specs.ObjectId.{leaf_letter}
use Rattle.drawing.specs.LeafLayout.{path_case, other_cases, is_leaf, leaf_body}
use Rattle.drawing.specs.ObjectLayout.{object}
use Rattle.drawing.specs.Table.{kind_in, path_kind, bitmap_kind, text_path_kind}
use Rattle.drawing.proofs.KindLaws.{old_leaf, no_leaf}
use Rattle.drawing.specs.TableDrawing.{Place, Walk, met, lost, onward, provided, body, letter_of, walk_leaf}
use Rattle.laws.specs.ObjectBytes.{bytes_of, leaf_bytes}
use Rattle.laws.specs.WalkLaws.{Holding, BodyMet, body_holds}
use Rattle.ways.specs.declared.Pass.{Pass}
use Rattle.ways.specs.Carries.{Laid}
use Rattle.ways.specs.TableWay.{table_way as way}
use Rattle.rows.specs.declared.walked.Walked.{Walked}
use Rattle.rows.specs.Rows.{row_at}
use Rattle.rows.specs.RowLaws.{kind_of-row}
use Rattle.walks.specs.Walks.{place_at, Stands, Walks, Rowed, WalksLeaf}
use Rattle.ways.specs.Written.{put_written}
use Rattle.walks.specs.WalkingLaws.{row_stands, onward_met, walks-led, body-walks}

-- Of the kinds from a path on, but for the new one, those up to a bitmap are a leaf's.
pub from_paths : (v k : ℕ) → path_kind ≤ k → (k ≡ text_path_kind → ⊥) → is_leaf v (letter_of k) ≡ leb k bitmap_kind
from_paths v k low other = by (leb k bitmap_kind) refl
  where
    by : (t : Bool) → leb k bitmap_kind ≡ t → is_leaf v (letter_of k) ≡ t
    by true e = old_leaf v k low (leb-true k bitmap_kind e)
    by false e = let high = leb-false k bitmap_kind e in no_leaf v k (λ is. omega arith) (λ is. omega arith) (λ is. omega arith) other

module _ (cs ws : List ℕ) (v parent row at : ℕ) (there : 4 * row + 4 ≤ length cs) {kind : ℕ} (kind-is : kind ≡ kind_in cs row) where
  -- The walk, by the kind.
  by_kind : ℕ → Walk Object
  by_kind k =
      provided (is_leaf v (letter_of k))
      (onward (body (leaf_body v (letter_of k)) k parent (row_at cs row) (place_at cs ws (row + 1) at)) (λ (l, d) q. met (leaf l d) q))

  here : walk_leaf v parent (row_at cs row) (place_at cs ws (row + 1) at) ≡ by_kind kind
  unfolding by_kind
  here = ap by_kind (kind_of-row cs row there ∙ sym kind-is)

  pub leaf_other : is_leaf v (letter_of kind) ≡ false → walk_leaf v parent (row_at cs row) (place_at cs ws (row + 1) at) ≡ lost
  unfolding by_kind
  leaf_other other = here ∙ ap (λ t. provided t (onward (body (leaf_body v (letter_of kind)) kind parent (row_at cs row) (place_at cs ws (row + 1) at)) (λ (l, d) q. met (leaf l d) q))) other

  module _ (is_IsLeaf : is_leaf v (letter_of kind) ≡ true) where
    abbrev L : Walk (Leaf × String)
    L = body (leaf_body v (letter_of kind)) kind parent (row_at cs row) (place_at cs ws (row + 1) at)

    in_range_lem : walk_leaf v parent (row_at cs row) (place_at cs ws (row + 1) at) ≡ onward L (λ a q. met (leaf a.0 a.1) q)
    unfolding by_kind
    in_range_lem = here ∙ ap (λ t. provided t (onward L (λ (l, d) q. met (leaf l d) q))) is_IsLeaf

    -- The leaf's letter, and behind it its body.
    bytes_are : Below (2 ^ 32) ws → (deep : ℕ) (a : Leaf × String) (q : Place) → L ≡ met a q → digits 256 2 (letter_of kind) ++ bytes_of (leaf_body v (letter_of kind)) a ≡ bytes_of (object v deep) (leaf a.0 a.1)
    bytes_are below deep a q is =
        let held : BodyMet (leaf_body v (letter_of kind)) kind parent (row_at cs row) (place_at cs ws (row + 1) at) a q =
        subst (Holding (BodyMet (leaf_body v (letter_of kind)) kind parent (row_at cs row) (place_at cs ws (row + 1) at))) is
        (body_holds (leaf_body v (letter_of kind)) kind parent (row_at cs row) (place_at cs ws (row + 1) at) (below_drop (2 ^ 32) at ws below)) in
        let tells : leaf_letter a.0 ≡ letter_of kind =
        chosen_tells (path_case v) (other_cases v) (letter_of kind) a.0 is_IsLeaf held.good.0 in
        ap (λ c. digits 256 2 c ++ bytes_of (leaf_body v c) a) (sym tells) ∙ sym (leaf_bytes v deep a.0 a.1 (ap (is_leaf v) tells ∙ is_IsLeaf))

    pub leaf_walks : {letter : ℕ} {m₀ m m' : List ℕ} {to : ℕ} {b : Pass} {r : Walked} → letter ≡ letter_of kind → Below (2 ^ 32) ws → Stands cs ws row at to → m ≡ put to (digits 256 2 letter) m₀
        → Laid (leaf_body v letter).format way ws m m' at (to + 2) b.at b.to → Rowed (row_at cs row) kind parent at (row + 1) b r → WalksLeaf v parent row cs ws m₀ m' at to r
    leaf_walks {letter} {m₀} {m} {m'} {to} {b} {r} letter-is below stands lettered laid rowed deep =
        let two = length_digits 256 2 (letter_of kind) in
        let fields : Laid (leaf_body v (letter_of kind)).format way ws m m' at (to + 2) b.at b.to = subst (λ c. Laid (leaf_body v c).format way ws m m' at (to + 2) b.at b.to) letter-is laid in
        let body : Walks (bytes_of (leaf_body v (letter_of kind))) (onward L (λ a q. met a q)) cs ws m m' (to + 2) r =
        body-walks (leaf_body v (letter_of kind)) (leaf_body v (letter_of kind)) (λ a. a) (λ a q. met a q) (λ a. a) cs ws (row_at cs row) kind parent (row + 1) at at below (omega arith) stands.inside
        (sym (and_then_found (parse Reading.words (leaf_body v (letter_of kind)) (drop at ws)))) (λ a q. refl) (λ a. refl) (row_stands 2 (omega arith) there stands) fields rowed in
        walks-led {A = Leaf × String} {B = Object} {bytes_in = bytes_of (leaf_body v (letter_of kind))} {bytes_out = bytes_of (object v deep)} {walk = L} (λ a. leaf a.0 a.1) (digits 256 2 (letter_of kind)) (omega (arith, two))
        (put_written (digits 256 2 (letter_of kind)) (lettered ∙ ap (λ c. put to (digits 256 2 c) m₀) letter-is)) in_range_lem (bytes_are below deep)
        (subst (λ w. Walks (bytes_of (leaf_body v (letter_of kind))) w cs ws m m' (to + 2) r) (onward_met L) body)
