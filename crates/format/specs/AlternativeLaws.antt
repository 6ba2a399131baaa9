-- A good value tells the tag, or the flag, that led to its layout.
use Rattle.std.specs.Prelude.{◌≡◌, refl, Bool, true, false, ◌&&◌, ◌||◌, cond, ℕ, List, [], ◌∷◌, eqb}
use Rattle.std.proofs.Common.{sym, ap, ◌∙◌, eqb-true, eq-eqb}
use Rattle.std.proofs.Math.Option.{Option, none, some}
use Rattle.format.specs.Alternative.{Alternative, among, chosen, flag_for}
use Rattle.format.specs.Format.{Made}

and_right : (a b : Bool) → (a && b) ≡ true → b ≡ true
and_right true b e = e
and_right false b e = let z : ◌≡◌ {A = Bool} false true = e in cc

module _ {B : Type 0} {tag_of : B → ℕ} where
  pub chosen_tells : (first : Alternative B tag_of) (rest : List (Alternative B tag_of)) (c : ℕ) (b : B)
      → among first rest c ≡ true → (chosen first rest c).Good b → tag_of b ≡ c
  chosen_tells first [] c b h g = first.tells b g ∙ sym (eqb-true c first.tag (and_right first.on (eqb c first.tag) h))
  chosen_tells first (x ∷ xs) c b h g = by (x.on && eqb c x.tag) refl h g (λ h' g'. chosen_tells first xs c b h' g')
    where
      by : (t : Bool) → (x.on && eqb c x.tag) ≡ t → (t || among first xs c) ≡ true
          → cond t (x.layout.Good b) ((chosen first xs c).Good b)
          → (among first xs c ≡ true → (chosen first xs c).Good b → tag_of b ≡ c) → tag_of b ≡ c
      by true e h g more = x.tells b g ∙ sym (eqb-true c x.tag (and_right x.on (eqb c x.tag) e))
      by false e h g more = more h g

  -- A good value of the layout that its own tag chooses is of an alternative that is on.
  pub chosen-among : (first : Alternative B tag_of) (rest : List (Alternative B tag_of)) (b : B)
      → first.on ≡ true → (chosen first rest (tag_of b)).Good b → among first rest (tag_of b) ≡ true
  chosen-among first [] b on g = ap (λ t. t && eqb (tag_of b) first.tag) on ∙ eq-eqb (tag_of b) first.tag (first.tells b g)
  chosen-among first (x ∷ xs) b on g = by (x.on && eqb (tag_of b) x.tag) g (chosen-among first xs b on)
    where
      by : (t : Bool) → cond t (x.layout.Good b) ((chosen first xs (tag_of b)).Good b) → ((chosen first xs (tag_of b)).Good b → among first xs (tag_of b) ≡ true) → (t || among first xs (tag_of b)) ≡ true
      by true g more = refl
      by false g more = more g

-- A part that stands where the flag has one value, and is absent where it has the other.
pub flag_tells : {A : Type 0} (P : A → Type 0) (present absent v : ℕ) (o : Option A) (t : Bool) → eqb v present ≡ t → (eqb v present ≡ false → v ≡ absent)
    → cond t (Made P (λ a. some a) o o) (o ≡ none) → flag_for present absent o ≡ v
flag_tells P present absent v none true e other g = absurd g
flag_tells P present absent v (some a) true e other g = sym (eqb-true v present e)
flag_tells P present absent v o false e other g = rw g (sym (other e))

-- A value of a case has the tag of all that the case makes.
pub case_tells : {A B : Type 0} (P : A → Type 0) (tag_of : B → ℕ) (tag : ℕ) (make : A → B) → ((a : A) → P a → tag_of (make a) ≡ tag)
    → (b : B) (o : Option A) → Made P make b o → tag_of b ≡ tag
case_tells P tag_of tag make same b none g = absurd g
case_tells P tag_of tag make same b (some a) g = ap tag_of (sym g.0) ∙ same a g.1
