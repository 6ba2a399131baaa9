-- A chain of markers begins with the id that led to it.
use Rattle.std.specs.Prelude.{◌≡◌, refl, Bool, true, false, cond, ℕ, List, [], ◌∷◌, leb, eqb}
use Rattle.std.proofs.Common.{sym, ap, ◌∙◌, arith, eqb-true, to_z}
use Rattle.std.proofs.Math.Option.{Option, none, some}
use Rattle.format.specs.Kind.{Allowed}
use Rattle.format.specs.Format.{Made}
use Rattle.drawing.specs.Fields.{marker_fault, marker_id, in_range}
use Rattle.format.specs.Layout.{Layout, ◌&◌}
use Rattle.drawing.specs.Marker.{Marker, first_id, head_and_tail, marker_body, marker, arrow}
use Rattle.std.specs.Int.{w8}

body_id : (v id : ℕ) (m : Marker) → (marker_body v id).Good m → m.id ≡ id
body_id v id m g = by (leb 1 v) g
  where
    by : (t : Bool) → cond t ((marker v id).Good m) ((arrow id).Good m) → m.id ≡ id
    by true g = sym (ap (λ x. x.id) g.0)
    by false g = sym (ap (λ x. x.id) g.0)

-- An allowed id is 0, or the chain may go on.
id_may : (listed may : Bool) → marker_fault listed may ≡ 0 → may ≡ true
id_may listed true e = refl
id_may true false e = absurd (omega arith)
id_may false false e = absurd (omega arith)

pub last_id : (high id : ℕ) (ms : List Marker) → Allowed (marker_id high false) id → ms ≡ [] → first_id ms ≡ id
last_id high id ms a e = rw e (sym (eqb-true id 0 (id_may (in_range 0 high (to_z w8 id)) (eqb id 0) a.faultless)))

-- What an id leads to: no marker where it is 0, and otherwise one with that id and then more.
id_tells : (v id : ℕ) (rest : Layout (List Marker)) (ms : List Marker) (o : Option (Marker × List Marker)) (t : Bool) → eqb id 0 ≡ t
    → cond t (ms ≡ []) (Made (marker_body v id & rest).Good (λ t. t.0 ∷ t.1) ms o) → first_id ms ≡ id
id_tells v id rest ms o true e g = rw g (sym (eqb-true id 0 e))
id_tells v id rest ms none false e g = absurd g
id_tells v id rest ms (some t) false e g = ap first_id (sym g.0) ∙ body_id v id t.0 g.1.0

pub chain_id : (v high : ℕ) (rest : Layout (List Marker)) (id : ℕ) (ms : List Marker) → Allowed (marker_id high true) id
    → cond (eqb id 0) (ms ≡ []) (Made (marker_body v id & rest).Good (λ t. t.0 ∷ t.1) ms (head_and_tail ms)) → first_id ms ≡ id
chain_id v high rest id ms allowed good = id_tells v id rest ms (head_and_tail ms) (eqb id 0) refl good
