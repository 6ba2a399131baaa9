-- Chains of composite markers (01, 'Line style'): a marker's data end with another marker, and an id of 0 ends the chain.
use Rattle.std.specs.Prelude.{refl, true, false, ℕ, zero, suc, List, [], ◌∷◌, leb, eqb}
use Rattle.format.specs.Layout.{Layout, field, nothing, either, when, case, implied, ◌&◌}
use Rattle.drawing.specs.Limits.{marker_limit, v1_1}
use Rattle.drawing.specs.Fields.{marker_id}
use Rattle.drawing.specs.Marker.{Marker, last_marker, first_id, head_and_tail, marker_body}
use Rattle.drawing.specs.MarkerLaws.{last_id, chain_id}

-- A chain of at most so many markers. In 1.0 a marker has no composite one.
abbrev pub chain : ℕ → ℕ → Layout (List Marker)
chain v zero = implied (field (marker_id (last_marker v) false)) (λ id. nothing []) first_id (last_id (last_marker v))
chain v (suc left) =
    implied
    (field (marker_id (last_marker v) true))
    (λ id.
    either (eqb id 0)
    (nothing [])
    (case (marker_body v id & when (leb v1_1 v) (chain v left) []) (λ t. t.0 ∷ t.1) head_and_tail (λ t good. refl)))
    first_id
    (chain_id v (last_marker v) (when (leb v1_1 v) (chain v left) []))

abbrev pub markers : ℕ → Layout (List Marker)
markers v = chain v marker_limit
