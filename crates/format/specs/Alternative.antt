-- Alternatives: which of several layouts stands here is told by a field in front of it.
use Rattle.std.specs.Prelude.{◌≡◌, Bool, ◌&&◌, ◌||◌, ℕ, List, [], ◌∷◌, eqb}
use Rattle.std.proofs.Math.Option.{Option, none, some}
use Rattle.format.specs.Layout.{Layout, either}

-- The values of one case of a type, which a tag tells. An alternative that is off is not allowed here.
pub record Alternative (B : Type 0) (tag_of : B → ℕ) : Type 1 where
  pub tag : ℕ
  pub on : Bool
  pub layout : Layout B
  pub tells : (b : B) → layout.Good b → tag_of b ≡ tag

-- Of a fallback and the others, which are tried before it. Other tags never come to the fallback: `among` refuses them.
module _ {B : Type 0} {tag_of : B → ℕ} where
  -- The tag is that of an alternative that is on.
  abbrev pub among : Alternative B tag_of → List (Alternative B tag_of) → ℕ → Bool
  among fallback [] c = fallback.on && eqb c fallback.tag
  among fallback (x ∷ xs) c = x.on && eqb c x.tag || among fallback xs c

  -- The layout that the tag tells.
  abbrev pub chosen : Alternative B tag_of → List (Alternative B tag_of) → ℕ → Layout B
  chosen fallback [] c = fallback.layout
  chosen fallback (x ∷ xs) c = either (x.on && eqb c x.tag) x.layout (chosen fallback xs c)

-- The value of the flag that tells whether a part is there.
abbrev pub flag_for : {A : Type 0} → ℕ → ℕ → Option A → ℕ
flag_for present absent none = absent
flag_for present absent (some a) = present
