-- What the ids of leaves tell of an object's id: a group's is none of them, and which ids are refused.
use Rattle.std.specs.Prelude.{◌≡◌, refl, Bool, true, false, ℕ, eqb, leb}
use Rattle.std.proofs.Common.{ap, ap₂, ◌∙◌, ne_eqb}
use Prim.Native.Char.{code}
use Rattle.drawing.specs.Numbers.{bad_char}
use Rattle.drawing.specs.Limits.{v1_5}
use Rattle.drawing.specs.Fields.{unless, object_fault, object_id}
use Rattle.drawing.specs.LeafLayout.{is_leaf}
use Rattle.drawing.specs.ObjectLaws.{leaf_ids, leaf_ids_lem}

-- A group's id is no leaf's.
pub group_no_leaf : (v : ℕ) → is_leaf v (code "G") ≡ false
group_no_leaf v = leaf_ids_lem v (code "G")

pub text-path_fault : (v : ℕ) (deeper : Bool) → (object_id (is_leaf v) deeper).fault (code "X") ≡ unless (leb v1_5 v) bad_char
text-path_fault v deeper = ap (λ t. object_fault t false deeper) (leaf_ids_lem v (code "X")) ∙ by (leb v1_5 v)
  where
    by : (on : Bool) → object_fault on false deeper ≡ unless on bad_char
    by true = refl
    by false = refl

pub other_fault : (v : ℕ) (deeper : Bool) (c : ℕ) → (c ≡ code "I" → ⊥) → (c ≡ code "P" → ⊥) → (c ≡ code "T" → ⊥) → (c ≡ code "X" → ⊥) → (c ≡ code "G" → ⊥)
    → (object_id (is_leaf v) deeper).fault c ≡ bad_char
other_fault v deeper c i p t x g =
    let none : leaf_ids (leb v1_5 v) c ≡ false = rw (ne_eqb c (code "T") t, ne_eqb c (code "I") i, ne_eqb c (code "P") p, ne_eqb c (code "X") x) refl in
    ap₂ (λ l b. object_fault l b deeper) (leaf_ids_lem v c ∙ none) (ne_eqb c (code "G") g)
