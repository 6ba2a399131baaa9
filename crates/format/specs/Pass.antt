-- A pass over the fields of a script: each is read from the units of one codec, judged, and spelled in the units of another, into memory where it
-- fits. Reading a file into a table is such a pass, and writing a table's file is one; judging alone is a pass into no memory.
use Rattle.std.specs.Prelude.{cond, ℕ, ◌+◌, List, ◌++◌, leb, length, take, drop}
use Rattle.format.specs.Codec.{Outcome, found, refused}
use Rattle.format.specs.FixedCodec.{Fixed, spell_fixed}
use Rattle.format.specs.FixedReading.{fixed}
use Rattle.format.specs.Script.{Script, end, ask}
use Rattle.format.specs.Format.{script}
use Rattle.format.specs.Layout.{Layout}

-- A list with these elements at a place, and all else as it was.
abbrev pub splice : ℕ → List ℕ → List ℕ → List ℕ
splice place ws s = take place s ++ (ws ++ drop (place + length ws) s)

-- The same where the elements fit; elsewhere the list as it is.
abbrev pub put : ℕ → List ℕ → List ℕ → List ℕ
put to ws m = cond (leb (to + length ws) (length m)) (splice to ws m) m

-- What a pass comes to: the places in the source and in the memory behind what was passed, and the memory; or the number of a refusal and the
-- place of the field at fault.
pub data Passed : Type 0 where
  through : (at to : ℕ) → List ℕ → Passed
  stopped : (number at : ℕ) → Passed

-- A way from one codec's units into another's.
pub record Route : Type 0 where
  pub source : Fixed
  pub target : Fixed
  -- what a pass comes to where a field of the source is refused, by the refusal's number and the field's place
  pub refusal : (number at : ℕ) → Passed

abbrev pub onward : Route → ℕ → Outcome ℕ → (ℕ → Passed) → Passed
onward R at (found v rest) then = then v
onward R at (refused n place) then = R.refusal n at

-- The fields of a script, from a place of the source on, into memory from a place on.
abbrev pub pass : {A : Type 0} → Route → List ℕ → Script A → (at to : ℕ) → List ℕ → Passed
pass R us (end x) at to m = through at to m
pass R us (ask k next) at to m =
    onward R at ((fixed R.source).read k (drop at us)) (λ v.
    pass R us (next v) (at + R.source.width k.shape) (to + R.target.width k.shape) (put to (spell_fixed R.target k v) m))

infixr 20 ◌⟫◌
-- The fields of a layout, and then these.
abbrev pub ◌⟫◌ : {A : Type 0} → Layout A → Script (Unit {0}) → Script (Unit {0})
◌⟫◌ L K = script L.format (λ a. K)

abbrev pub done : Script (Unit {0})
done = end tt
