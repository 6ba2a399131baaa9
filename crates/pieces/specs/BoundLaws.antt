-- Layouts of bounded size: how many bytes their fields take at most.
use Rattle.std.specs.Prelude.{◌≡◌, true, false, ℕ, zero, suc, ◌+◌, ◌-◌, ◌*◌, ◌≤◌, List, [], ◌∷◌}
use Rattle.std.proofs.Common.{subst, arith}
use Rattle.std.proofs.Math.Nat as Nat
use Rattle.format.specs.Script.{Script, end, ask}
use Rattle.format.specs.Format.{Format, known, one, pair, many, lead, pick, via, script, script_many}
use Rattle.format.specs.Layout.{Layout}
use Rattle.format.specs.ParsingLaws.{followed, followed-script}
use Rattle.format.specs.Pass.{◌⟫◌, done}
use Rattle.drawing.specs.Codecs.{byte_fields}
use Rattle.pieces.specs.TallyLaws.{Under}

under_more : {R : Type 0} (n m : ℕ) (s : Script R) → n ≤ m → Under n s → Under m s
under_more n m (end r) le f = tt
under_more n m (ask k next) le f =
    let w = f.0 in
    (Nat.le_trans w le, λ v. under_more (n - byte_fields.width k.shape) (m - byte_fields.width k.shape) (next v) (omega arith) (f.1 v))

under_followed : {A R : Type 0} (n m : ℕ) (s : Script A) (then : A → Script R) → Under n s → ((a : A) → Under m (then a)) → Under (n + m) (followed s then)
under_followed n m (end a) then f g = under_more m (n + m) (then a) (omega arith) (g a)
under_followed n m (ask k next) then f g =
    let w = f.0 in (
      omega arith,
      λ v. under_more (n - byte_fields.width k.shape + m) (n + m - byte_fields.width k.shape) (followed (next v) then) (omega arith) (under_followed (n - byte_fields.width k.shape) m (next v) then (f.1 v) g),
    )

-- The fields of a layout take at most so many bytes. By recursion, so that what is to be shown of a layout is a plain tuple.
abbrev pub Within : {A : Type 0} {P : A → Type 0} → ℕ → Format A P → Type 0
Within n (known x) = Unit {0}
Within n (one k) = byte_fields.width k.shape ≤ n
Within n (pair {A = A} f g) = (i : ℕ) × (j : ℕ) × (i + j ≤ n) × Within i f × ((a : A) → Within j (g a))
Within n (lead {A = A} f g told same) = (i : ℕ) × (j : ℕ) × (i + j ≤ n) × Within i f × ((a : A) → Within j (g a))
Within n (many {S = S} m each next s) = (i : ℕ) × (m * i ≤ n) × ((t : S) → Within i (each t))
Within n (pick t f g) = Within n f × Within n g
Within n (via f make apart same) = Within n f

then_under : {A R : Type 0} {P : A → Type 0} (n m l : ℕ) (f : Format A P) → n + m ≤ l → Under n (script f (λ a. end a)) → (then : A → Script R) → ((a : A) → Under m (then a)) → Under l (script f then)
then_under n m l f le b then g =
    under_more (n + m) l (script f then) le (subst (λ s. Under (n + m) s) (followed-script f (λ a. end a) then) (under_followed n m (script f (λ a. end a)) then b g))

-- n elements, each in the same room
many_under : {S A R : Type 0} {P : S → A → Type 0} (i m l : ℕ) (each : (s : S) → Format A (P s)) (next : S → A → S) (n : ℕ) (s : S) (then : List A → Script R)
    → n * i + m ≤ l → ((t : S) → Under i (script (each t) (λ a. end a))) → ((as' : List A) → Under m (then as'))
    → Under l (script_many (λ t k. script (each t) k) next n s then)
many_under i m l each next zero s then le b g = under_more m l (then []) (omega (arith, le)) (g [])
many_under {A = A} i m l each next (suc n) s then le b g =
    let room : i + (n * i + m) ≤ l = Nat.le_trans (omega (arith, Nat.suc-mul n i)) le in
    then_under i (n * i + m) l (each s) room (b s) (λ a. script_many (λ t k. script (each t) k) next n (next s a) (λ as'. then (a ∷ as'))) (λ a.
    many_under i m (n * i + m) each next n (next s a) (λ as'. then (a ∷ as')) (Nat.le_refl (n * i + m)) b (λ as'. g (a ∷ as')))

within_under : {A : Type 0} {P : A → Type 0} (n : ℕ) (f : Format A P) → Within n f → Under n (script f (λ a. end a))
within_under n (known x) u = tt
within_under n (one k) u = (u, λ v. tt)
within_under n (pair {A = A} {B = B} f g) u =
    then_under {R = A × B} u.0 u.1 n f u.2 (within_under u.0 f u.3) (λ a. script (g a) (λ b. end (a, b))) (λ a.
    then_under {R = A × B} u.1 0 u.1 (g a) (omega arith) (within_under u.1 (g a) (u.4 a)) (λ b. end (a, b)) (λ b. tt))
within_under n (lead {A = A} {B = B} f g told same) u =
    then_under u.0 u.1 n f u.2 (within_under u.0 f u.3) (λ a. script (g a) (λ b. end b)) (λ a. within_under u.1 (g a) (u.4 a))
within_under n (many {A = A} m each next s) u =
    many_under u.0 0 n each next m s (λ as'. end as') (omega (arith, u.1)) (λ t. within_under u.0 (each t) (u.2 t)) (λ as'. tt)
within_under n (pick true f g) u = within_under n f u.0
within_under n (pick false f g) u = within_under n g u.1
within_under n (via {A = A} {B = B} f make apart same) u =
    then_under n 0 n f (omega arith) (within_under n f u) (λ a. end (make a)) (λ a. tt)

-- The bytes of a layout are at most so many. A record, so that a proof need not look into it.
pub record Most {A : Type 0} (n : ℕ) (L : Layout A) : Type 0 where
  pub within : Within n L.format

pub most_under : {A : Type 0} {n : ℕ} {L : Layout A} (room : ℕ) → n ≤ room → Most n L → Under room (L ⟫ done)
most_under {n = n} {L} room fits most =
    then_under n 0 room L.format (omega arith) (within_under n L.format most.within) (λ a. done) (λ a. tt)
