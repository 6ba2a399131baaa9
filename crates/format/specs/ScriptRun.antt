-- Scripts, run: each field that a script asks for is read from units by a codec.
use Rattle.std.specs.Prelude.{◌≡◌, ℕ, List, [], ◌∷◌}
use Rattle.format.specs.Kind.{Field, Allowed}
use Rattle.format.specs.Codec.{Codec, Outcome, found, and_then}
use Rattle.format.specs.Script.{Script, end, ask}

-- A script, given its fields from units that a codec reads.
abbrev pub run : {R : Type 0} → Codec → Script R → List ℕ → Outcome R
run C (end r) us = found r us
run C (ask k next) us = and_then (C.read k us) (λ v rest. run C (next v) rest)

-- Given these fields, each allowed where it is asked for, the script ends with this.
abbrev pub Ends : {R : Type 0} → Script R → List Field → R → Type 0
Ends (end x) [] r = x ≡ r
Ends (end x) (f ∷ fs) r = ⊥
Ends (ask k next) [] r = ⊥
Ends (ask k next) (f ∷ fs) r = (f.kind ≡ k) × Allowed k f.value × Ends (next f.value) fs r
