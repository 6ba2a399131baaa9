-- Parsing: a layout's fields, read one after another from units. LayoutLaws says what it comes to.
use Rattle.std.specs.Prelude.{ℕ, List}
use Rattle.format.specs.Codec.{Codec, Outcome}
use Rattle.format.specs.Script.{end}
use Rattle.format.specs.ScriptRun.{run}
use Rattle.format.specs.Format.{script}
use Rattle.format.specs.Layout.{Layout}

-- The value that units lay out, and what comes behind it; or the first field at which they are cut or at fault.
abbrev pub parse : {A : Type 0} → Codec → Layout A → List ℕ → Outcome A
parse C L us = run C (script L.format (λ a. end a)) us
