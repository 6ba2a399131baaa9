-- What a session stands for: the relation between its numbers and the bytes given since it was opened. Nobody need believe it: SessionPromises.antt says
-- what holds of sessions begun by opening, whatever the relation is.
use Rattle.std.specs.Prelude.{◌≡◌, ◌⊎◌, Bool, cond, ◌||◌, ℕ, suc, ◌+◌, ◌-◌, ◌<◌, ◌≤◌, List, ◌++◌, eqb, ltb, length}
use Rattle.format.specs.Digits.{Below}
use Rattle.drawing.specs.declared.Answer.{Answer}
use Rattle.drawing.specs.Numbers.{accepted, too_long}
use Rattle.drawing.specs.Limits.{length_limit, depth_limit}
use Rattle.drawing.specs.Drawing.{file}
use Rattle.drawing.specs.Answers.{answer}
use Rattle.pieces.specs.declared.Inside.{Inside}
use Rattle.pieces.specs.declared.Session.{Session}
use Rattle.pieces.specs.Tally.{plus, tallied}
use Rattle.pieces.specs.Going.{room}
use Rattle.pieces.specs.Held.{first_of}
use Rattle.pieces.specs.Parts.{Standing, head_on, rest}
use Rattle.pieces.specs.Verdict.{verdict_of}

abbrev pub inside_of : Session → Inside
inside_of s = record { parts = s.parts; run = s.run; width = s.width; segments = s.segments; x = s.x; y = s.y }

abbrev pub standing : Session → Standing
standing s =
    record { version = s.version; stage = s.stage; depth = s.depth; members = s.members; rows = s.rows; within = inside_of s }

abbrev pub held_bytes : Session → List ℕ
held_bytes s = first_of s.held s.buffer

-- The verdict, if no more bytes came.
abbrev pub verdict_now : Session → Answer
verdict_now s = cond (eqb s.number 0) (answer accepted s.bytes s.rows (s.words - s.rows - 4)) (answer s.number s.offset 0 0)

-- The stage of a session that has found a fault.
abbrev pub stopped : ℕ
stopped = 7

-- No fault yet: whatever comes behind, the file comes to what is left comes to, behind the bytes held.
pub record Going (bs : List ℕ) (s : Session) : Type 0 where
  pub on : s.stage < stopped
  -- a group whose count comes next may be open
  pub may-open : s.stage ≡ 5 → s.depth < depth_limit
  pub few-held : s.held < room
  pub few_words : s.words + s.held ≤ length bs
  pub few-rows : s.rows + s.held ≤ length bs
  pub number-now : s.number < 14
  pub same : (more : List ℕ) → tallied (head_on file) (bs ++ more) ≡ plus s.words (tallied (rest (standing s)) (held_bytes s ++ more))

-- A fault: whatever comes behind, this is the verdict.
pub record Faulty (bs : List ℕ) (s : Session) : Type 0 where
  pub off : s.stage ≡ stopped
  pub some : (0 < s.number) × (s.number < 14)
  pub same : (more : List ℕ) → Below 256 more → length (bs ++ more) ≤ length_limit → verdict_of (bs ++ more) ≡ answer s.number s.offset 0 0

-- Within the limit a session knows the verdict on the bytes so far, and goes on or has found a fault.
pub record Within (bs : List ℕ) (s : Session) : Type 0 where
  pub counted : s.bytes ≡ length bs
  pub now : verdict_now s ≡ verdict_of bs
  pub one_of : Going bs s ⊎ Faulty bs s

-- A session stands for these bytes.
pub record Stands (bs : List ℕ) (s : Session) : Type 0 where
  pub units : Below 256 bs
  pub shallow : s.depth ≤ depth_limit
  pub within : length bs ≤ length_limit → Within bs s
  -- past the limit bytes are not counted on
  pub beyond : length_limit < length bs → s.bytes ≡ suc length_limit
