-- Layouts of choices: one of several, told by a tag, and a part that a flag tells to be there or not.
use Rattle.std.specs.Prelude.{◌≡◌, refl, Bool, true, false, ℕ, List, eqb}
use Rattle.std.proofs.Common.{◌∙◌}
use Rattle.std.proofs.Math.Option.{Option, none, some}
use Rattle.format.specs.Kind.{Kind, Allowed}
use Rattle.format.specs.Layout.{Layout, field, nothing, either, case, implied}
use Rattle.format.specs.Alternative.{Alternative, among, chosen, flag_for}
use Rattle.format.specs.AlternativeLaws.{chosen_tells, flag_tells, case_tells}

-- An alternative: a tag, whether it is on, its layout, and how a value of the case is made of it and taken apart.
abbrev pub alternative : {A B : Type 0} {tag_of : B → ℕ} (tag : ℕ) (on : Bool) (f : Layout A) (make : A → B) (apart : B → Option A)
    → ((a : A) → apart (make a) ≡ some a) → ((a : A) → tag_of (make a) ≡ tag) → Alternative B tag_of
alternative {tag_of = tag_of} tag on f make apart same tells =
    record {
      tag = tag;
      on = on;
      layout = case f make apart (λ a good. same a);
      tells = λ b good. case_tells f.Good tag_of tag make (λ a g. tells a) b (apart b) good;
    }

-- An alternative for the values of one type, as one for those of a type that has them as a case.
abbrev pub within : {A B : Type 0} {inner : A → ℕ} {outer : B → ℕ} (make : A → B) (apart : B → Option A)
    → ((a : A) → apart (make a) ≡ some a) → ((a : A) → outer (make a) ≡ inner a) → Alternative A inner → Alternative B outer
within {outer = outer} make apart same tags x =
    record {
      tag = x.tag;
      on = x.on;
      layout = case x.layout make apart (λ a good. same a);
      tells = λ b good. case_tells x.layout.Good outer x.tag make (λ a g. tags a ∙ x.tells a g) b (apart b) good;
    }

-- A field of this kind, whose value tells which alternative follows.
abbrev pub one_of : {B : Type 0} {tag_of : B → ℕ} (k : Kind) (fallback : Alternative B tag_of) (rest : List (Alternative B tag_of))
    → ((c : ℕ) → Allowed k c → among fallback rest c ≡ true) → Layout B
one_of {tag_of = tag_of} k fallback rest listed =
    implied (field k) (chosen fallback rest) tag_of (λ c b allowed good. chosen_tells fallback rest c b (listed c allowed) good)

-- A flag of this kind, which allows two values, and a part where it has the first of them.
abbrev pub optional : {A : Type 0} (k : Kind) (present absent : ℕ) → ((v : ℕ) → Allowed k v → eqb v present ≡ false → v ≡ absent) → Layout A → Layout (Option A)
optional k present absent two f =
    implied
    (field k)
    (λ v. either (eqb v present) (case f (λ a. some a) (λ o. o) (λ a good. refl)) (nothing none))
    (flag_for present absent)
    (λ v o allowed good. flag_tells f.Good present absent v o (eqb v present) refl (two v allowed) good)
