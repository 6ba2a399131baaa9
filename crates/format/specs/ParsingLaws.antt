-- How a layout parses part by part: its script, with whatever comes behind it, runs as it parses.
use Rattle.std.specs.Prelude.{◌≡◌, refl, Bool, true, false, cond, ℕ, zero, suc, List, [], ◌∷◌, ◌++◌}
use Rattle.std.proofs.Common.{sym, ap, ◌∙◌, append-nil}
use Rattle.std.proofs.Math.Path.{fun_ext}
use Rattle.std.proofs.Math.Option.{Option, some}
use Rattle.format.specs.Kind.{Kind, Field}
use Rattle.format.specs.Codec.{Codec, Outcome, found, refused, and_then}
use Rattle.format.specs.Script.{Script, end, ask}
use Rattle.format.specs.Parse.{parse}
use Rattle.format.specs.ScriptRun.{run, Ends}
use Rattle.format.specs.Format.{Format, known, one, pair, many, pick, lead, via, fields, script, script_many}
use Rattle.format.specs.FormatLaws.{Taken, taken}
use Rattle.format.specs.Layout.{Layout, field, either, threaded, renamed, case, implied, ◌▸◌}

-- ---- outcomes

pub and_then_same : {A B : Type 0} (o : Outcome A) {f g : A → List ℕ → Outcome B} → ((a : A) (rest : List ℕ) → f a rest ≡ g a rest) → and_then o f ≡ and_then o g
and_then_same (found a rest) h = h a rest
and_then_same (refused n place) h = refl

pub and_then_and_then : {A B C : Type 0} (o : Outcome A) (f : A → List ℕ → Outcome B) (g : B → List ℕ → Outcome C)
    → and_then (and_then o f) g ≡ and_then o (λ a rest. and_then (f a rest) g)
and_then_and_then (found a rest) f g = refl
and_then_and_then (refused n place) f g = refl

pub and_then_found : {A : Type 0} (o : Outcome A) → and_then o (λ a rest. found a rest) ≡ o
and_then_found (found a rest) = refl
and_then_found (refused n place) = refl

-- ---- a layout's script, and what comes behind it

-- A script, and then one that goes on from what the first ended with.
abbrev pub followed : {A R : Type 0} → Script A → (A → Script R) → Script R
followed (end a) then = then a
followed (ask k next) then = ask k (λ v. followed (next v) then)

followed-many : {S A B R : Type 0} (more : B → Script R) (this : S → (A → Script B) → Script B) (that : S → (A → Script R) → Script R) (next : S → A → S)
    → ((s : S) (then : A → Script B) → followed (this s then) more ≡ that s (λ a. followed (then a) more))
    → (n : ℕ) (s : S) (then : List A → Script B) → followed (script_many this next n s then) more ≡ script_many that next n s (λ as'. followed (then as') more)
followed-many more this that next h zero s then = refl
followed-many more this that next h (suc n) s then =
    h s (λ a. script_many this next n (next s a) (λ as'. then (a ∷ as')))
    ∙ ap (that s) (fun_ext (λ a. followed-many more this that next h n (next s a) (λ as'. then (a ∷ as'))))

pub followed-script : {A B R : Type 0} {P : A → Type 0} (f : Format A P) (then : A → Script B) (more : B → Script R)
    → followed (script f then) more ≡ script f (λ a. followed (then a) more)
followed-script (known x) then more = refl
followed-script (one k) then more = refl
followed-script (pair f g) then more =
    followed-script f (λ a. script (g a) (λ b. then (a, b))) more
    ∙ ap (λ k. script f k) (fun_ext (λ a. followed-script (g a) (λ b. then (a, b)) more))
followed-script (lead f g told same) then more =
    followed-script f (λ a. script (g a) then) more
    ∙ ap (λ k. script f k) (fun_ext (λ a. followed-script (g a) then more))
followed-script {B = B} {R = R} (many n each next s) then more =
    followed-many more (λ t k. script {R = B} (each t) k) (λ t k. script {R = R} (each t) k) next (λ t k. followed-script (each t) k more) n s then
followed-script (pick true f g) then more = followed-script f then more
followed-script (pick false f g) then more = followed-script g then more
followed-script (via f make apart same) then more = followed-script f (λ a. then (make a)) more

run-followed : {A R : Type 0} (C : Codec) (s : Script A) (more : A → Script R) (us : List ℕ) → run C (followed s more) us ≡ and_then (run C s us) (λ a rest. run C (more a) rest)
run-followed C (end a) more us = refl
run-followed C (ask k next) more us =
    and_then_same (C.read k us) (λ v rest. run-followed C (next v) more rest)
    ∙ sym (and_then_and_then (C.read k us) (λ v rest. run C (next v) rest) (λ a rest. run C (more a) rest))

-- To run a layout's script is to parse, and then to run what comes behind it.
pub run-script : {A R : Type 0} {P : A → Type 0} (C : Codec) (f : Format A P) (then : A → Script R) (us : List ℕ)
    → run C (script f then) us ≡ and_then (run C (script f (λ a. end a)) us) (λ a rest. run C (then a) rest)
run-script C f then us = ap (λ s. run C s us) (sym (followed-script f (λ a. end a) then)) ∙ run-followed C (script f (λ a. end a)) then us

-- ---- parsing, part by part

module _ {A : Type 0} (C : Codec) where
  pub parse-either : (t : Bool) (f g : Layout A) (us : List ℕ) → parse C (either t f g) us ≡ cond t (parse C f us) (parse C g us)
  parse-either true f g us = refl
  parse-either false f g us = refl

pub parse-field : (C : Codec) (k : Kind) (us : List ℕ) → parse C (field k) us ≡ C.read k us
parse-field C k us = and_then_found (C.read k us)

module _ {A B : Type 0} (C : Codec) (f : Layout A) where
  pub parse-renamed : (make : A → B) (apart : B → A) (same : (a : A) → f.Good a → apart (make a) ≡ a) (us : List ℕ)
      → parse C (renamed f make apart same) us ≡ and_then (parse C f us) (λ a rest. found (make a) rest)
  parse-renamed make apart same us = run-script C f.format (λ a. end (make a)) us

  pub parse-case : (make : A → B) (apart : B → Option A) (same : (a : A) → f.Good a → apart (make a) ≡ some a) (us : List ℕ)
      → parse C (case f make apart same) us ≡ and_then (parse C f us) (λ a rest. found (make a) rest)
  parse-case make apart same us = run-script C f.format (λ a. end (make a)) us

  pub parse-implied : (g : A → Layout B) (told : B → A) (same : (a : A) (b : B) → f.Good a → (g a).Good b → told b ≡ a) (us : List ℕ)
      → parse C (implied f g told same) us ≡ and_then (parse C f us) (λ a rest. parse C (g a) rest)
  parse-implied g told same us = run-script C f.format (λ a. script (g a).format (λ b. end b)) us

  -- Two parts, put together.
  parse-both : {D : Type 0} (g : A → Layout B) (make : A → B → D) (us : List ℕ)
      → run C (script f.format (λ a. script (g a).format (λ b. end (make a b)))) us
      ≡ and_then (parse C f us) (λ a rest. and_then (parse C (g a) rest) (λ b rest₂. found (make a b) rest₂))
  parse-both g make us =
      run-script C f.format (λ a. script (g a).format (λ b. end (make a b))) us
      ∙ and_then_same (parse C f us) (λ a rest. run-script C (g a).format (λ b. end (make a b)) rest)

  pub parse_pair : (g : A → Layout B) (us : List ℕ)
      → parse C (f ▸ g) us ≡ and_then (parse C f us) (λ a rest. and_then (parse C (g a) rest) (λ b rest₂. found (a, b) rest₂))
  parse_pair g us = parse-both g (λ a b. (a, b)) us

pub parse-threaded : {S A : Type 0} (C : Codec) (n : ℕ) (each : S → Layout A) (next : S → A → S) (s : S) (us : List ℕ)
    → parse C (threaded (suc n) each next s) us
    ≡ and_then (parse C (each s) us) (λ a rest. and_then (parse C (threaded n each next (next s a)) rest) (λ as' rest₂. found (a ∷ as') rest₂))
parse-threaded C n each next s us = parse-both C (each s) (λ a. threaded n each next (next s a)) (λ a as'. a ∷ as') us

-- Fields that bring a layout's script to its end are those of the value that it ends with.
pub ended : {A : Type 0} {P : A → Type 0} (f : Format A P) (fs : List Field) (a : A) → Ends (script f (λ a. end a)) fs a → fs ≡ fields f a
ended {A} {P} f fs a e = alone t.behind t.split t.ends
  where
    t : Taken P (λ a. fields f a) (λ a. end a) fs a
    t = taken f (λ a. end a) fs a e

    alone : (gs : List Field) → fs ≡ fields f t.value ++ gs → Ends (end t.value) gs a → fs ≡ fields f a
    alone [] split same = split ∙ append-nil (fields f t.value) ∙ ap (λ a. fields f a) same
    alone (g ∷ gs) split same = absurd same
