-- A layout as a process: a script asks for one field after another and ends with what they make.
use Rattle.std.specs.Prelude.{◌≡◌, ℕ, List, [], ◌∷◌}
use Rattle.format.specs.Kind.{Kind, Field, Allowed}

pub data Script (R : Type 0) : Type 0 where
  end : R → Script R
  ask : Kind → (ℕ → Script R) → Script R

-- Given these fields, each allowed where it is asked for, the script then asks for a field of this kind.
abbrev pub Asks : {R : Type 0} → Script R → List Field → Kind → Type 0
Asks (end x) fs k = ⊥
Asks (ask k next) [] k' = k ≡ k'
Asks (ask k next) (f ∷ fs) k' = (f.kind ≡ k) × Allowed k f.value × Asks (next f.value) fs k'
