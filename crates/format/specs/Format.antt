-- Descriptions of layouts: which fields follow one another, as a family indexed by the type of the values laid out and by which of them are good.
use Rattle.std.specs.Prelude.{◌≡◌, Bool, true, false, cond, ℕ, zero, suc, List, [], ◌∷◌, ◌++◌}
use Rattle.std.proofs.Math.Option.{Option, none, some}
use Rattle.format.specs.Kind.{Kind, Field, Allowed}
use Rattle.format.specs.Script.{Script, ask}

-- There are n elements, each good where a state stands that the ones before it have led to.
abbrev pub Each : {S A : Type 0} → (S → A → Type 0) → (S → A → S) → ℕ → S → List A → Type 0
Each P next zero s [] = Unit {0}
Each P next zero s (a ∷ as') = ⊥
Each P next (suc n) s [] = ⊥
Each P next (suc n) s (a ∷ as') = P s a × Each P next n (next s a) as'

-- The value was made of these good parts, if it can be taken apart at all.
abbrev pub Made : {A B : Type 0} → (A → Type 0) → (A → B) → B → Option A → Type 0
Made P make b none = ⊥
Made P make b (some a) = (make a ≡ b) × P a

pub data Format : (A : Type 0) → (A → Type 0) → Type 1 where
  -- no field: the value is known
  known : {A : Type 0} (x : A) → Format A (λ a. a ≡ x)
  -- one field
  one : (k : Kind) → Format ℕ (Allowed k)
  -- a first part, and then one that may depend on it
  pair : {A B : Type 0} {P : A → Type 0} {Q : A → B → Type 0} → Format A P → ((a : A) → Format B (Q a)) → Format (A × B) (λ t. P t.0 × Q t.0 t.1)
  -- the same, where the second part tells the first again, so that the value does without it
  lead : {A B : Type 0} {P : A → Type 0} {Q : A → B → Type 0}
      → Format A P
      → ((a : A) → Format B (Q a))
      → (told : B → A)
      → ((a : A) (b : B) → P a → Q a b → told b ≡ a)
      → Format B (λ b. P (told b) × Q (told b) b)
  -- n elements, each laid out by a state that the ones before it have led to
  many : {S A : Type 0} {P : S → A → Type 0} (n : ℕ) (each : (s : S) → Format A (P s)) (next : S → A → S) (s : S) → Format (List A) (Each P next n s)
  -- one of two, by a test
  pick : {A : Type 0} {P Q : A → Type 0} (t : Bool) → Format A P → Format A Q → Format A (λ a. cond t (P a) (Q a))
  -- the same fields for values of another type, made of the first ones and taken apart again
  via : {A B : Type 0} {P : A → Type 0}
      → Format A P
      → (make : A → B)
      → (apart : B → Option A)
      → ((a : A) → P a → apart (make a) ≡ some a)
      → Format B (λ b. Made P make b (apart b))

-- The fields of a list of values, each by the state that the ones before it have led to.
abbrev pub fields_many : {S A : Type 0} → (S → A → List Field) → (S → A → S) → S → List A → List Field
fields_many f next s [] = []
fields_many f next s (a ∷ as') = f s a ++ fields_many f next (next s a) as'

abbrev pub of_some : {A : Type 0} → (A → List Field) → Option A → List Field
of_some f none = []
of_some f (some a) = f a

-- The fields that lay out a value.
abbrev pub fields : {A : Type 0} {P : A → Type 0} → Format A P → A → List Field
fields (known x) a = []
fields (one k) v = record { kind = k; value = v } ∷ []
fields (pair f g) t = fields f t.0 ++ fields (g t.0) t.1
fields (lead f g told same) b = fields f (told b) ++ fields (g (told b)) b
fields (many n each next s) as' = fields_many (λ t a. fields (each t) a) next s as'
fields (pick true f g) a = fields f a
fields (pick false f g) a = fields g a
fields (via f make apart same) b = of_some (λ a. fields f a) (apart b)

-- A script for n elements, from a script for one, and what comes behind them.
abbrev pub script_many : {S A R : Type 0} → (S → (A → Script R) → Script R) → (S → A → S) → ℕ → S → (List A → Script R) → Script R
script_many f next zero s then = then []
script_many f next (suc n) s then = f s (λ a. script_many f next n (next s a) (λ as'. then (a ∷ as')))

-- The layout as a script, with what comes behind it.
abbrev pub script : {A R : Type 0} {P : A → Type 0} → Format A P → (A → Script R) → Script R
script (known x) then = then x
script (one k) then = ask k then
script (pair f g) then = script f (λ a. script (g a) (λ b. then (a, b)))
script (lead f g told same) then = script f (λ a. script (g a) then)
script (many n each next s) then = script_many (λ t k. script (each t) k) next n s then
script (pick t f g) then = cond t (script f then) (script g then)
script (via f make apart same) then = script f (λ a. then (make a))
