-- The rules of passes over layouts: one for each way in which a layout is put together, and those of loops.
use Rattle.std.specs.Prelude.{◌≡◌, refl, Bool, true, false, ℕ, zero, suc, ◌-◌, ◌<◌, ◌≤◌, List, length}
use Rattle.std.proofs.Common.{ap, ◌∙◌, subst, true≢false, arith}
use Rattle.std.proofs.lemmas.Bool.{false≢true}
use Rattle.format.specs.Script.{Script}
use Rattle.format.specs.Format.{Format, known, one, pair, lead, many, pick, via, script}
use Rattle.format.specs.Layout.{Layout, repeat}
use Rattle.format.specs.Pass.{◌⟫◌}
use Rattle.ways.specs.Way.{Way}
use Rattle.ways.specs.Passes.{refused, behind, Ready, behind_gone}
use Rattle.ways.specs.Carries.{Progress, Valued, Carried, Laid}

-- ---- parts

module _ {W : Way} {us m : List ℕ} {at to : ℕ} where
  -- A part whose value does not matter.
  pub valued-laid : {A : Type 0} {P : A → Type 0} {f : Format A P} {a : A} {m' : List ℕ} {at' to' : ℕ} → Valued f a W us m m' at to at' to' → Laid f W us m m' at to at' to'
  valued-laid valued =
      record { carried = record { runs = λ K. valued.runs (λ a. K); ready = valued.ready; same_length = valued.same_length } }

  -- No field: the value is known.
  pub nothing-laid : {A : Type 0} {x : A} → Ready (length us) at to → Laid (known x) W us m m at to at to
  nothing-laid ready = record { carried = record { runs = λ K. refl; ready = ready; same_length = refl } }

  -- A pass that was refused has passed over anything, with any value.
  pub gone_valued : {A : Type 0} {P : A → Type 0} {f : Format A P} {a : A} → Ready (length us) at to → refused ≤ at → Valued f a W us m m at to at to
  gone_valued {f = f} {a = a} ready gone =
      record { runs = λ next. behind_gone W us m m at to (script f next) (next a) gone; ready = ready; same_length = refl }

-- A first part that tells what comes behind it, or one that does not matter to it.
pub data Both {A : Type 0} {P : A → Type 0} (f : Format A P) (W : Way) (us m m'' : List ℕ) (at to at'' to'' : ℕ) : (B : Type 0) (Q : A → B → Type 0) (g : (a : A) → Format B (Q a)) → Type 1 where
  told : {B : Type 0} {Q : A → B → Type 0} {g : (a : A) → Format B (Q a)} {a : A} {m' : List ℕ} {at' to' : ℕ} → Valued f a W us m m' at to at' to' → Laid (g a) W us m' m'' at' to' at'' to'' → Both f W us m m'' at to at'' to'' B Q g
  both : {B : Type 0} {Q : B → Type 0} {g : Format B Q} {m' : List ℕ} {at' to' : ℕ} → Laid f W us m m' at to at' to' → Laid g W us m' m'' at' to' at'' to'' → Both f W us m m'' at to at'' to'' B (λ a. Q) (λ a. g)

-- A part that is there by a test, and what stands there else.
pub data Picked {A : Type 0} {P Q : A → Type 0} (test : Bool) (f : Format A P) (g : Format A Q) (W : Way) (us m m' : List ℕ) (at to at' to' : ℕ) : Type 1 where
  then : test ≡ true → Laid f W us m m' at to at' to' → Picked test f g W us m m' at to at' to'
  else : test ≡ false → Laid g W us m m' at to at' to' → Picked test f g W us m m' at to at' to'

-- The same fields, for other values.
pub data Cased {A : Type 0} {P : A → Type 0} (f : Format A P) (W : Way) (us m m' : List ℕ) (at to at' to' : ℕ) : Type 1 where
  cased : Laid f W us m m' at to at' to' → Cased f W us m m' at to at' to'

-- What is needed for a layout, of its parts.
abbrev pub Needs : {A : Type 0} {P : A → Type 0} → Format A P → Way → (us m m' : List ℕ) → (at to at' to' : ℕ) → Type 1
Needs (known x) W us m m' at to at' to' = Cased (known x) W us m m' at to at' to'
Needs (one k) W us m m' at to at' to' = Cased (one k) W us m m' at to at' to'
Needs (pair {B = B} {Q = Q} f g) W us m m' at to at' to' = Both f W us m m' at to at' to' B Q g
Needs (lead {B = B} {Q = Q} f g again same) W us m m' at to at' to' = Both f W us m m' at to at' to' B Q g
Needs (many n each next s) W us m m' at to at' to' = Cased (many n each next s) W us m m' at to at' to'
Needs (pick test f g) W us m m' at to at' to' = Picked test f g W us m m' at to at' to'
Needs (via f make apart same) W us m m' at to at' to' = Cased f W us m m' at to at' to'

module _ {W : Way} {us m m'' : List ℕ} {at to at'' to'' : ℕ} where
  both_runs : {A B : Type 0} {P : A → Type 0} {Q : A → B → Type 0} {f : Format A P} {g : (a : A) → Format B (Q a)} → Both f W us m m'' at to at'' to'' B Q g
      → Carried (λ K. script f (λ a. script (g a) (λ b. K))) W us m m'' at to at'' to''
  both_runs (told {g = g} first second) =
      record {
        runs = λ K. first.runs (λ a. script (g a) (λ b. K)) ∙ second.carried.runs K;
        ready = second.carried.ready;
        same_length = second.carried.same_length ∙ first.same_length;
      }
  both_runs (both {g = g} first second) =
      record {
        runs = λ K. first.carried.runs (script g (λ b. K)) ∙ second.carried.runs K;
        ready = second.carried.ready;
        same_length = second.carried.same_length ∙ first.carried.same_length;
      }

  pub laid : {A : Type 0} {P : A → Type 0} {f : Format A P} → Needs f W us m m'' at to at'' to'' → Laid f W us m m'' at to at'' to''
  laid {f = known x} (cased same) = same
  laid {f = one k} (cased same) = same
  laid {f = pair f g} needs = record { carried = both_runs needs }
  laid {f = lead f g again same} needs = record { carried = both_runs needs }
  laid {f = many n each next s} (cased same) = same
  laid {f = pick true f g} (then is part) = record { carried = part.carried }
  laid {f = pick false f g} (then is part) = absurd (false≢true is)
  laid {f = pick true f g} (else is part) = absurd (true≢false is)
  laid {f = pick false f g} (else is part) = record { carried = part.carried }
  laid {f = via f make apart same} (cased part) = record { carried = part.carried }

infixr 20 ◌⨾◌
-- One part, and then another.
pub ◌⨾◌ : {A B : Type 0} {P : A → Type 0} {Q : B → Type 0} {f : Format A P} {g : Format B Q} {W : Way} {us m m' m'' : List ℕ} {at to at' to' at'' to'' : ℕ}
    → Laid f W us m m' at to at' to' → Laid g W us m' m'' at' to' at'' to'' → Laid (pair f (λ a. g)) W us m m'' at to at'' to''
◌⨾◌ first second = laid (both first second)

-- Fields that are the same, said otherwise.
pub same-laid : {A B : Type 0} {P : A → Type 0} {Q : B → Type 0} {f : Format A P} {g : Format B Q} {W : Way} {us m m' : List ℕ} {at to at' to' : ℕ}
    → ((K : Script (Unit {0})) → script f (λ a. K) ≡ script g (λ b. K)) → Laid g W us m m' at to at' to' → Laid f W us m m' at to at' to'
same-laid {W = W} {us} {m} {at = at} {to} same part =
    record {
      carried =
          record {
            runs = λ K. ap (behind W us m at to) (same K) ∙ part.carried.runs K;
            ready = part.carried.ready;
            same_length = part.carried.same_length;
          };
    }

-- ---- loops: so many parts in all, and so many left

module _ {W : Way} {us m : List ℕ} {at to : ℕ} {these : Script (Unit {0}) → Script (Unit {0})} where
  -- Before the first step.
  pub came_nowhere : Ready (length us) at to → Progress these these W us m m at to at to
  came_nowhere ready = record { runs = λ K. refl; ready = ready; same_length = refl }

  -- So many are left, counted otherwise.
  pub came_so : (rest : ℕ → Script (Unit {0}) → Script (Unit {0})) {n left : ℕ} {m' : List ℕ} {at' to' : ℕ} → n ≡ left → Progress these (rest n) W us m m' at to at' to' → Progress these (rest left) W us m m' at to at' to'
  came_so rest {m' = m'} {at'} {to'} is so = subst (λ n. Progress these (rest n) W us m m' at to at' to') is so

  module _ {m' : List ℕ} {at' to' : ℕ} {those : Script (Unit {0}) → Script (Unit {0})} (so : Progress these those W us m m' at to at' to') where
    -- One step more.
    pub came_on : {m'' : List ℕ} {at'' to'' : ℕ} {left : Script (Unit {0}) → Script (Unit {0})} → Progress those left W us m' m'' at' to' at'' to'' → Progress these left W us m m'' at to at'' to''
    came_on step = record { runs = λ K. so.runs K ∙ step.runs K; ready = step.ready; same_length = step.same_length ∙ so.same_length }

    -- A pass that was refused has come all the way, whatever was left.
    pub came_refused : refused ≤ at' → Carried these W us m m' at to at' to'
    came_refused gone =
        record { runs = λ K. so.runs K ∙ behind_gone W us m' m' at' to' (those K) K gone; ready = so.ready; same_length = so.same_length }

module _ {A : Type 0} (L : Layout A) {W : Way} {us m : List ℕ} {at to : ℕ} where
  -- One of the parts that are left.
  pub one_of : (left : ℕ) {m' : List ℕ} {at' to' : ℕ} → 0 < left → Laid L.format W us m m' at to at' to' → Progress (λ K. repeat left L ⟫ K) (λ K. repeat (left - 1) L ⟫ K) W us m m' at to at' to'
  one_of zero some part = absurd (omega arith)
  one_of (suc n) {m'} {at'} {to'} some part =
      record {
        runs = λ K. part.carried.runs (repeat n L ⟫ K) ∙ ap (λ i. behind W us m' at' to' (repeat i L ⟫ K)) (less_one n);
        ready = part.carried.ready;
        same_length = part.carried.same_length;
      }
    where
      less_one : (n : ℕ) → n ≡ suc n - 1
      less_one n = omega arith

  -- None is left.
  pub none_of : (left : ℕ) → (0 < left → ⊥) → Ready (length us) at to → Carried (λ K. repeat left L ⟫ K) W us m m at to at to
  none_of zero none ready = record { runs = λ K. refl; ready = ready; same_length = refl }
  none_of (suc n) none ready = absurd (none (omega arith))
