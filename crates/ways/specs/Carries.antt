-- A pass over some fields, as a contract.
use Rattle.std.specs.Prelude.{◌≡◌, ℕ, List, length}
use Rattle.format.specs.Kind.{Kind}
use Rattle.format.specs.Script.{Script}
use Rattle.format.specs.Format.{Format, one, script}
use Rattle.ways.specs.declared.FieldPass.{FieldPass}
use Rattle.ways.specs.Way.{Way}
use Rattle.ways.specs.Passes.{behind, Ready}

-- From one place, and one memory, to another: whatever comes behind them, these fields then come to what those do now.
pub record Progress (these those : Script (Unit {0}) → Script (Unit {0})) (W : Way) (us m m' : List ℕ) (at to at' to' : ℕ) : Type 0 where
  pub runs : (K : Script (Unit {0})) → behind W us m at to (these K) ≡ behind W us m' at' to' (those K)
  pub ready : Ready (length us) at' to'
  pub same_length : length m' ≡ length m

-- Over all of these fields.
abbrev pub Carried : (Script (Unit {0}) → Script (Unit {0})) → Way → (us m m' : List ℕ) → (at to at' to' : ℕ) → Type 0
Carried these W us m m' at to at' to' = Progress these (λ K. K) W us m m' at to at' to'

-- Over the fields of a layout.
pub record Laid {A : Type 0} {P : A → Type 0} (f : Format A P) (W : Way) (us m m' : List ℕ) (at to at' to' : ℕ) : Type 0 where
  pub carried : Carried (λ K. script f (λ a. K)) W us m m' at to at' to'

-- Over the fields of a layout whose value is then known: what comes behind goes on by it.
pub record Valued {A : Type 0} {P : A → Type 0} (f : Format A P) (a : A) (W : Way) (us m m' : List ℕ) (at to at' to' : ℕ) : Type 0 where
  pub runs : (next : A → Script (Unit {0})) → behind W us m at to (script f next) ≡ behind W us m' at' to' (next a)
  pub ready : Ready (length us) at' to'
  pub same_length : length m' ≡ length m

-- Over one field of a kind.
abbrev pub Asked : Kind → Way → (us m m' : List ℕ) → (at to : ℕ) → FieldPass → Type 0
Asked k W us m m' at to q = Valued (one k) q.value W us m m' at to q.pass.at q.pass.to
