-- A paper's measures: two doubles that are passed as a run.
use Rattle.std.specs.Prelude.{refl, List, ℕ, length}
use Rattle.format.specs.Format.{Format, one, pair}
use Rattle.drawing.specs.Fields as F
use Rattle.ways.specs.declared.Pass.{Pass}
use Rattle.ways.specs.Way.{Way}
use Rattle.ways.specs.Passes.{Ready}
use Rattle.ways.specs.Carries.{Laid}
use Rattle.ways.specs.LayoutLaws.{valued-laid, same-laid, ◌⨾◌}
use Rattle.ways.specs.Runs.{Any, Runs}

double-any : Any 8 F.double
double-any = record { sized = refl; all = refl; faultless = λ v. refl }

module _ {W : Way} {us m m' : List ℕ} {at to : ℕ} {q : Pass} (run : Runs W 8 2 us m m' at to q) where
  pub measures_ready : Ready (length us) q.at q.to
  measures_ready = (run.values F.double double-any).ready

  -- The run is two fields, with what comes behind them.
  pub measures_then : {B : Type 0} {Q : B → Type 0} {g : Format B Q} {m'' : List ℕ} {at'' to'' : ℕ} → Laid g W us m' m'' q.at q.to at'' to'' → Laid (pair (one F.double) (λ a. pair (one F.double) (λ b. g))) W us m m'' at to at'' to''
  measures_then rest = same-laid (λ K. refl) (valued-laid (run.values F.double double-any) ⨾ rest)
