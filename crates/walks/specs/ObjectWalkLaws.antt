-- The walk over an object: its row tells whether it is a leaf or a group.
use Rattle.std.specs.Prelude.{◌≡◌, ℕ, zero, suc, ◌+◌, ◌-◌, ◌*◌, ◌<◌, ◌≤◌, List, [], ◌++◌, eqb, length}
use Rattle.std.proofs.Common.{sym, ap, subst, ◌∙◌, arith, eq-eqb, ne_eqb}
use Prim.Native.Char.{code}
use Rattle.format.specs.Digits.{digits}
use Rattle.drawing.specs.String.{String}
use Rattle.drawing.specs.Object.{Objects, group}
use Rattle.drawing.specs.ObjectLayout.{object}
use Rattle.drawing.specs.Table.{group_kind, kind_in}
use Rattle.drawing.specs.TableDrawing.{lost, onward, walk_leaf, walk_kind, walk_object}
use Rattle.laws.specs.ObjectBytes.{bytes_of, group_bytes_lem, group_body-bytes}
use Rattle.rows.specs.declared.walked.Walked.{Walked}
use Rattle.rows.specs.Rows.{row_at}
use Rattle.rows.specs.RowLaws.{kind_of-row}
use Rattle.walks.specs.Walks.{place_at, Walks, group_bytes, WalksLeaf, WalksGroup, WalksObject}
use Rattle.ways.specs.Written.{nothing_written}
use Rattle.walks.specs.RowLaws.{row_met, row-lost}
use Rattle.walks.specs.WalkingLaws.{walks-led}

-- A group's bytes are its id and what follows it.
group_same : (v deep : ℕ) (t : Objects × String) → group_bytes v deep t ≡ bytes_of (object v (suc deep)) (group t.0 t.1)
group_same v deep (os, d) = ap (λ l. digits 256 2 (code "G") ++ l) (group_body-bytes v deep os d 0) ∙ sym (group_bytes_lem v deep os d 0)

module _ (cs ws : List ℕ) (v parent row at : ℕ) where
  pub object-short : (deep : ℕ) → length cs < 4 * row + 4 → walk_object v deep parent (place_at cs ws row at) ≡ lost
  object-short zero short = ap (λ w. onward w (λ words q. walk_leaf v parent words q)) (row-lost cs ws row at short)
  object-short (suc deep) short =
      ap (λ w. onward w (λ words q. walk_kind (eqb (kind_in words 0) group_kind) v (λ r. walk_object v deep row r) parent words q)) (row-lost cs ws row at short)

  module _ (there : 4 * row + 4 ≤ length cs) where
    behind-row : (deep : ℕ) → walk_object v (suc deep) parent (place_at cs ws row at)
        ≡ walk_kind (eqb (kind_in cs row) group_kind) v (λ r. walk_object v deep row r) parent (row_at cs row) (place_at cs ws (row + 1) at)
    behind-row deep =
        ap (λ w. onward w (λ words q. walk_kind (eqb (kind_in words 0) group_kind) v (λ r. walk_object v deep row r) parent words q)) (row_met cs ws row at there)
        ∙ ap (λ k. walk_kind (eqb k group_kind) v (λ r. walk_object v deep row r) parent (row_at cs row) (place_at cs ws (row + 1) at)) (kind_of-row cs row there)

    leaf_here : (deep : ℕ) → (0 < deep → kind_in cs row ≡ group_kind → ⊥) → walk_leaf v parent (row_at cs row) (place_at cs ws (row + 1) at) ≡ walk_object v deep parent (place_at cs ws row at)
    leaf_here zero other = sym (ap (λ w. onward w (λ words q. walk_leaf v parent words q)) (row_met cs ws row at there))
    leaf_here (suc deep) other =
        sym (behind-row deep
        ∙ ap (λ t. walk_kind t v (λ r. walk_object v deep row r) parent (row_at cs row) (place_at cs ws (row + 1) at)) (ne_eqb (kind_in cs row) group_kind (other (omega arith))))

    module _ {m m' : List ℕ} {to : ℕ} {r : Walked} where
      pub object_leaf : (deep : ℕ) → (0 < deep → kind_in cs row ≡ group_kind → ⊥) → WalksLeaf v parent row cs ws m m' at to r → WalksObject v deep parent row cs ws m m' at to r
      object_leaf deep other walks = subst (λ w. Walks (bytes_of (object v deep)) w cs ws m m' to r) (leaf_here deep other) (walks deep)

      pub object_group : (deep : ℕ) → 0 < deep → kind_in cs row ≡ group_kind → WalksGroup v (deep - 1) parent row cs ws m m' at to r → WalksObject v deep parent row cs ws m m' at to r
      object_group zero some is walks = absurd (omega arith)
      object_group (suc deep) some is walks =
          let less : suc deep - 1 ≡ deep = omega arith in
          let inner : WalksGroup v deep parent row cs ws m m' at to r = subst (λ n. WalksGroup v n parent row cs ws m m' at to r) less walks in
          walks-led (λ t. group t.0 t.1) [] (omega arith) nothing_written
          (behind-row deep ∙ ap (λ t. walk_kind t v (λ r. walk_object v deep row r) parent (row_at cs row) (place_at cs ws (row + 1) at)) (eq-eqb (kind_in cs row) group_kind is))
          (λ t q met-here. group_same v deep t) inner
