-- A layout's script is given exactly the fields of good values: one induction on descriptions each way, with no codec in it.
use Rattle.std.specs.Prelude.{◌≡◌, refl, true, false, ℕ, zero, suc, List, [], ◌∷◌, ◌++◌, length}
use Rattle.std.proofs.Common.{ap, append_assoc}
use Rattle.std.proofs.Math.Option.{Option, none, some}
use Rattle.format.specs.Kind.{Field}
use Rattle.format.specs.Script.{Script}
use Rattle.format.specs.ScriptRun.{Ends}
use Rattle.format.specs.Format.{Format, known, one, pair, many, pick, lead, via, Each, Made, fields, fields_many, of_some, script, script_many}

-- The script of a layout, given the fields of a good value, goes on with that value.
abbrev Given : {A R : Type 0} → (A → Type 0) → (A → List Field) → ((A → Script R) → Script R) → Type 0
Given {A} {R} P fs s = (a : A) → P a → (then : A → Script R) (gs : List Field) (r : R) → Ends (then a) gs r → Ends (s then) (fs a ++ gs) r

ends-many : {S A R : Type 0} (P : S → A → Type 0) (fs : S → A → List Field) (next : S → A → S) (sc : S → (A → Script R) → Script R)
    → ((s : S) → Given (P s) (fs s) (sc s))
    → (n : ℕ) (s : S) → Given (Each P next n s) (fields_many fs next s) (script_many sc next n s)
ends-many P fs next sc h zero s [] g then gs r e = e
ends-many P fs next sc h zero s (a ∷ as') g then gs r e = absurd g
ends-many P fs next sc h (suc n) s [] g then gs r e = absurd g
ends-many P fs next sc h (suc n) s (a ∷ as') g then gs r e =
    rw append_assoc
    (h s a g.0 (λ a. script_many sc next n (next s a) (λ as'. then (a ∷ as'))) (fields_many fs next (next s a) as' ++ gs) r
    (ends-many P fs next sc h n (next s a) as' g.1 (λ as'. then (a ∷ as')) gs r e))

ends_via : {A B R : Type 0} (P : A → Type 0) (fs : A → List Field) (sc : (A → Script R) → Script R) (make : A → B)
    → Given P fs sc
    → (b : B) (o : Option A) → Made P make b o → (then : B → Script R) (gs : List Field) (r : R)
    → Ends (then b) gs r → Ends (sc (λ a. then (make a))) (of_some fs o ++ gs) r
ends_via P fs sc make h b none g then gs r e = absurd g
ends_via P fs sc make h b (some a) g then gs r e =
    let e' : Ends (then (make a)) gs r = rw g.0 e in
    h a g.1 (λ a. then (make a)) gs r e'

pub ends-script : {A R : Type 0} {P : A → Type 0} (f : Format A P) (a : A) → P a → (then : A → Script R) (gs : List Field) (r : R) → Ends (then a) gs r → Ends (script f then) (fields f a ++ gs) r
ends-script (known x) a g then gs r e = rw g at e
ends-script (one k) v g then gs r e = (refl, g, e)
ends-script (pair f g) t good then gs r e =
    rw append_assoc
    (ends-script f t.0 good.0 (λ a. script (g a) (λ b. then (a, b))) (fields (g t.0) t.1 ++ gs) r
    (ends-script (g t.0) t.1 good.1 (λ b. then (t.0, b)) gs r e))
ends-script (lead f g told same) b good then gs r e =
    rw append_assoc
    (ends-script f (told b) good.0 (λ a. script (g a) then) (fields (g (told b)) b ++ gs) r
    (ends-script (g (told b)) b good.1 then gs r e))
ends-script {R = R} (many {P = P} n each next s) as' g then gs r e =
    ends-many P (λ t a. fields (each t) a) next (λ t k. script {R = R} (each t) k) (λ t a good k hs x y. ends-script (each t) a good k hs x y) n s as' g then gs r e
ends-script (pick true f g) a good then gs r e = ends-script f a good then gs r e
ends-script (pick false f g) a good then gs r e = ends-script g a good then gs r e
ends-script {R = R} (via {P = P} f make apart same) b g then gs r e =
    ends_via P (λ a. fields f a) (λ k. script {R = R} f k) make (λ a good k hs x y. ends-script f a good k hs x y) b (apart b) g then gs r e

-- What a script was given, up to what comes behind the layout, are the fields of a good value.
pub record Taken {A R : Type 0} (P : A → Type 0) (fs : A → List Field) (then : A → Script R) (all : List Field) (r : R) : Type 0 where
  pub value : A
  pub good : P value
  pub behind : List Field
  pub split : all ≡ fs value ++ behind
  pub ends : Ends (then value) behind r

taken_many : {S A R : Type 0} (P : S → A → Type 0) (fs : S → A → List Field) (next : S → A → S) (sc : S → (A → Script R) → Script R)
    → ((s : S) (then : A → Script R) (all : List Field) (r : R) → Ends (sc s then) all r → Taken (P s) (fs s) then all r)
    → (n : ℕ) (s : S) (then : List A → Script R) (all : List Field) (r : R)
    → Ends (script_many sc next n s then) all r → Taken (Each P next n s) (fields_many fs next s) then all r
taken_many P fs next sc h zero s then all r e = record { value = []; good = tt; behind = all; split = refl; ends = e }
taken_many P fs next sc h (suc n) s then all r e =
    let head = h s (λ a. script_many sc next n (next s a) (λ as'. then (a ∷ as'))) all r e in
    let more = taken_many P fs next sc h n (next s head.value) (λ as'. then (head.value ∷ as')) head.behind r head.ends in
    record {
      value = head.value ∷ more.value;
      good = (head.good, more.good);
      behind = more.behind;
      split = rw (append_assoc, ← more.split) head.split;
      ends = more.ends;
    }

taken_pair : {A B R : Type 0} (P : A → Type 0) (Q : A → B → Type 0) (fs : A → List Field) (hs : A → B → List Field)
    (sc : A → (B → Script R) → Script R) (then : A × B → Script R) (all : List Field) (r : R)
    → Taken P fs (λ a. sc a (λ b. then (a, b))) all r
    → ((a : A) (k : B → Script R) (rest : List Field) (x : R) → Ends (sc a k) rest x → Taken (Q a) (hs a) k rest x)
    → Taken (λ t. P t.0 × Q t.0 t.1) (λ t. fs t.0 ++ hs t.0 t.1) then all r
taken_pair P Q fs hs sc then all r head h =
    let more = h head.value (λ b. then (head.value, b)) head.behind r head.ends in
    record {
      value = (head.value, more.value);
      good = (head.good, more.good);
      behind = more.behind;
      split = rw (append_assoc, ← more.split) head.split;
      ends = more.ends;
    }

taken_lead : {A B R : Type 0} (P : A → Type 0) (Q : A → B → Type 0) (fs : A → List Field) (hs : A → B → List Field)
    (sc : A → (B → Script R) → Script R) (told : B → A) → ((a : A) (b : B) → P a → Q a b → told b ≡ a)
    → (then : B → Script R) (all : List Field) (r : R)
    → Taken P fs (λ a. sc a then) all r
    → ((a : A) (k : B → Script R) (rest : List Field) (x : R) → Ends (sc a k) rest x → Taken (Q a) (hs a) k rest x)
    → Taken (λ b. P (told b) × Q (told b) b) (λ b. fs (told b) ++ hs (told b) b) then all r
taken_lead P Q fs hs sc told same then all r head h =
    let more = h head.value then head.behind r head.ends in
    let e = same head.value more.value head.good more.good in
    record {
      value = more.value;
      good = rw e (head.good, more.good);
      behind = more.behind;
      split = rw (e, append_assoc, ← more.split) head.split;
      ends = more.ends;
    }

taken_via : {A B R : Type 0} (P : A → Type 0) (fs : A → List Field) (make : A → B) (apart : B → Option A)
    → ((a : A) → P a → apart (make a) ≡ some a)
    → (then : B → Script R) (all : List Field) (r : R)
    → Taken P fs (λ a. then (make a)) all r
    → Taken (λ b. Made P make b (apart b)) (λ b. of_some fs (apart b)) then all r
taken_via P fs make apart same then all r head =
    record {
      value = make head.value;
      good = rw (same head.value head.good) (refl, head.good);
      behind = head.behind;
      split = rw (same head.value head.good) head.split;
      ends = head.ends;
    }

pub taken : {A R : Type 0} {P : A → Type 0} (f : Format A P) (then : A → Script R) (all : List Field) (r : R) → Ends (script f then) all r → Taken P (λ a. fields f a) then all r
taken (known x) then all r e = record { value = x; good = refl; behind = all; split = refl; ends = e }
taken (one k) then [] r e = absurd e
taken (one k) then (f ∷ fs) r e = record { value = f.value; good = e.1; behind = fs; split = ap {B = List Field} (λ k. record { kind = k; value = f.value } ∷ fs) e.0; ends = e.2 }
taken (pair {P = P} {Q = Q} f g) then all r e =
    taken_pair P Q (λ a. fields f a) (λ a b. fields (g a) b) (λ a k. script (g a) k) then all r
    (taken f (λ a. script (g a) (λ b. then (a, b))) all r e)
    (λ a k fs x y. taken (g a) k fs x y)
taken (lead {P = P} {Q = Q} f g told same) then all r e =
    taken_lead P Q (λ a. fields f a) (λ a b. fields (g a) b) (λ a k. script (g a) k) told same then all r
    (taken f (λ a. script (g a) then) all r e)
    (λ a k fs x y. taken (g a) k fs x y)
taken {R = R} (many {P = P} n each next s) then all r e =
    taken_many P (λ t a. fields (each t) a) next (λ t k. script {R = R} (each t) k) (λ t k fs x y. taken (each t) k fs x y) n s then all r e
taken (pick true f g) then all r e = taken f then all r e
taken (pick false f g) then all r e = taken g then all r e
taken (via {P = P} f make apart same) then all r e =
    taken_via P (λ a. fields f a) make apart same then all r (taken f (λ a. then (make a)) all r e)

-- Elements that are good one after another are as many as they are said to be.
pub each-length : {S A : Type 0} (P : S → A → Type 0) (next : S → A → S) (n : ℕ) (s : S) (as' : List A) → Each P next n s as' → length as' ≡ n
each-length P next zero s [] g = refl
each-length P next zero s (a ∷ as') g = absurd g
each-length P next (suc n) s [] g = absurd g
each-length P next (suc n) s (a ∷ as') g = ap suc (each-length P next n (next s a) as' g.1)
