-- What the primitives of a way and the functions over one field promise.
use Rattle.std.specs.Prelude.{◌≡◌, Bool, true, false, ℕ, ◌+◌, ◌-◌, ◌*◌, ◌/◌, ◌^◌, ◌<◌, ◌≤◌, List, length}
use Rattle.format.specs.Digits.{digits}
use Rattle.format.specs.Pass.{put}
use Rattle.ways.specs.declared.Pass.{Pass}
use Rattle.ways.specs.declared.FieldPass.{FieldPass}
use Rattle.ways.specs.Way.{Way, source_units, target_units}
use Rattle.ways.specs.Passes.{refused, refusal_of, stepped}

-- Whether so much is there, which it never is behind a refusal.
pub record Fits (W : Way) (bytes words : ℕ) (us : List ℕ) (at : ℕ) (r : Bool) : Type 0 where
  pub yes : r ≡ true → at + W.source.pick bytes words ≤ length us
  pub no : r ≡ false → length us < at + W.source.pick bytes words

-- A step over so many fields stays small.
pub record Small (W : Way) (size count at to : ℕ) : Type 0 where
  pub at_small : at + count * source_units W size < 2 ^ 60
  pub to-small : to + count * target_units W size < 2 ^ 60

-- A refusal, unless there was one before.
pub record Refused (W : Way) (n at to : ℕ) (r : Pass) : Type 0 where
  pub before : refused ≤ at → r ≡ record { at = at; to = to }
  pub now : at < refused → r ≡ refusal_of W n at

-- A run that is cut is refused at the first field that is not whole.
pub record CutRun (W : Way) (size : ℕ) (us : List ℕ) (at to : ℕ) (r : Pass) : Type 0 where
  pub before : refused ≤ at → r ≡ record { at = at; to = to }
  pub now : at < refused → r ≡ refusal_of W 2 (at + (length us - at) / source_units W size * source_units W size)

-- A value with this fault, 0 for none, is kept or refused.
pub record Keeps (W : Way) (size value fault : ℕ) (m m' : List ℕ) (at to : ℕ) (r : FieldPass) : Type 0 where
  pub good : fault ≡ 0 → (m' ≡ put to (digits W.target.base (target_units W size) value) m) × (r ≡ record { value = value; pass = stepped W size 1 at to })
  pub bad : 0 < fault → (m' ≡ m) × Refused W fault at to r.pass
