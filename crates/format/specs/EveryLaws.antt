-- What holds of every kind of field in a layout holds of each that its script asks for.
use Rattle.std.specs.Prelude.{◌≡◌, true, false, ℕ, zero, suc, List, [], ◌∷◌}
use Rattle.std.proofs.Common.{subst}
use Rattle.format.specs.Kind.{Kind, Field}
use Rattle.format.specs.Script.{Script, end, ask, Asks}
use Rattle.format.specs.Format.{Format, known, one, pair, lead, many, pick, via, script, script_many}

module _ (Q : Kind → Type 0) where
  abbrev pub Every : {A : Type 0} {P : A → Type 0} → Format A P → Type 0
  Every (known x) = Unit {0}
  Every (one k) = Q k
  Every (pair {A = A} f g) = Every f × ((a : A) → Every (g a))
  Every (lead {A = A} f g told same) = Every f × ((a : A) → Every (g a))
  Every (many {S = S} n each next s) = (t : S) → Every (each t)
  Every (pick t f g) = Every f × Every g
  Every (via f make apart same) = Every f

  abbrev EveryAsked : {R : Type 0} → Script R → Type 0
  EveryAsked (end x) = Unit {0}
  EveryAsked (ask k next) = Q k × ((v : ℕ) → EveryAsked (next v))

  every_many : {S A R : Type 0} (this : S → (A → Script R) → Script R) (next : S → A → S)
      → ((s : S) (then : A → Script R) → ((a : A) → EveryAsked (then a)) → EveryAsked (this s then))
      → (n : ℕ) (s : S) (then : List A → Script R) → ((as' : List A) → EveryAsked (then as')) → EveryAsked (script_many this next n s then)
  every_many this next h zero s then e = e []
  every_many this next h (suc n) s then e =
      h s (λ a. script_many this next n (next s a) (λ as'. then (a ∷ as'))) (λ a. every_many this next h n (next s a) (λ as'. then (a ∷ as')) (λ as'. e (a ∷ as')))

  every_script : {A R : Type 0} {P : A → Type 0} (f : Format A P) (then : A → Script R) → Every f → ((a : A) → EveryAsked (then a)) → EveryAsked (script f then)
  every_script (known x) then e h = h x
  every_script (one k) then e h = (e, h)
  every_script (pair f g) then e h = every_script f (λ a. script (g a) (λ b. then (a, b))) e.0 (λ a. every_script (g a) (λ b. then (a, b)) (e.1 a) (λ b. h (a, b)))
  every_script (lead f g told same) then e h = every_script f (λ a. script (g a) then) e.0 (λ a. every_script (g a) then (e.1 a) h)
  every_script {R = R} (many n each next s) then e h = every_many (λ t k. script {R = R} (each t) k) next (λ t k g. every_script (each t) k (e t) g) n s then h
  every_script (pick true f g) then e h = every_script f then e.0 h
  every_script (pick false f g) then e h = every_script g then e.1 h
  every_script (via f make apart same) then e h = every_script f (λ a. then (make a)) e (λ a. h (make a))

  every_asked : {R : Type 0} (s : Script R) (fs : List Field) (k : Kind) → EveryAsked s → Asks s fs k → Q k
  every_asked (end x) fs k e a = absurd a
  every_asked (ask k' next) [] k e a = subst Q a e.0
  every_asked (ask k' next) (f ∷ fs) k e a = every_asked (next f.value) fs k (e.1 f.value) a.2

  pub every_field : {A : Type 0} {P : A → Type 0} (f : Format A P) (fs : List Field) (k : Kind) → Every f → Asks (script f (λ a. end a)) fs k → Q k
  every_field f fs k e a = every_asked (script f (λ a. end a)) fs k (every_script f (λ a. end a) e (λ a. tt)) a
