-- What a call over any words says, said of a table's words and of bytes.
use Rattle.std.specs.Prelude.{◌≡◌, ℕ, List}
use Rattle.std.proofs.Common.{sym, subst, ◌∙◌, ap}
use Rattle.format.specs.Digits.{digits}
use Rattle.format.specs.Kind.{Kind}
use Rattle.format.specs.Layout.{Layout}
use Rattle.format.specs.Pass.{put}
use Rattle.ways.specs.declared.FieldPass.{FieldPass}
use Rattle.ways.specs.Way.{Way, target_units}
use Rattle.ways.specs.Carries.{Asked, Laid}
use Rattle.ways.specs.TableWay.{table_way}

module _ {W : Way} {kept : List ℕ → List ℕ} (of_table : W ≡ table_way) (bytes : (m : List ℕ) → kept m ≡ m) where
  pub asked : {k : Kind} {us m m' : List ℕ} {at to : ℕ} {q : FieldPass} → Asked k W us (kept m) (kept m') at to q → Asked k table_way us m m' at to q
  asked {k} {us} {m} {m'} {at} {to} {q} this =
      subst (λ n'. Asked k table_way us m n' at to q) (bytes m') (subst (λ n. Asked k table_way us n (kept m') at to q) (bytes m) (subst (λ W. Asked k W us (kept m) (kept m') at to q) of_table this))

  pub laid : {A : Type 0} (L : Layout A) {us m m' : List ℕ} {at to at' to' : ℕ} → Laid L.format W us (kept m) (kept m') at to at' to' → Laid L.format table_way us m m' at to at' to'
  laid L {us} {m} {m'} {at} {to} {at'} {to'} this =
      subst (λ n'. Laid L.format table_way us m n' at to at' to') (bytes m') (subst (λ n. Laid L.format table_way us n (kept m') at to at' to') (bytes m) (subst (λ W. Laid L.format W us (kept m) (kept m') at to at' to') of_table this))

  pub stored : (size to v : ℕ) (m : List ℕ) {m' : List ℕ} → kept m' ≡ put to (digits W.target.base (target_units W size) v) (kept m) → m' ≡ put to (digits 256 size v) m
  stored size to v m {m'} this =
      sym (bytes m') ∙ subst (λ W. kept m' ≡ put to (digits W.target.base (target_units W size) v) (kept m)) of_table this ∙ ap (put to (digits 256 size v)) (bytes m)
