-- What the calls of a checking session promise (R-6), for every session that is lent and every piece.
--
-- `Stands bs s` relates a session to the bytes given since it was opened. Only this has to be believed of it: opening begins it with no bytes, a piece adds its
-- bytes, and the verdict is then the reader's on these bytes. `verdict-of_pieces` in SessionLaws puts them together, for any list of pieces.
--
-- R-6 leaves free what else the fields hold, and what a piece makes of a session that is fit and that opening did not begin.
use Rattle.std.specs.Prelude.{◌≡◌, ◌⊎◌, Bool, true, false, cond, ◌||◌, ℕ, suc, ◌/◌, ◌≤◌, min, List, [], ◌∷◌, ◌++◌, ltb, length}
use Rattle.drawing.specs.declared.Answer.{Answer}
use Rattle.drawing.specs.Numbers.{accepted, too_long}
use Rattle.drawing.specs.Limits.{length_limit, depth_limit}
use Rattle.drawing.specs.Drawing.{Drawing, IsFile}
use Rattle.drawing.specs.Refusal.{Refused}
use Rattle.drawing.specs.Table.{row_width}
use Rattle.drawing.specs.Answers.{answer, rows_of, word_count}
use Rattle.drawing.specs.Computed.{read_result}
use Rattle.pieces.specs.declared.Session.{Session}
use Rattle.pieces.specs.Session.{Stands, verdict_now}

-- The number that R-6 adds: this is no session that opening began.
abbrev pub no_session : ℕ
no_session = 22

-- The depth it holds is over the depth limit, or its count of bytes over the length limit plus one.
abbrev pub unfit : Session → Bool
unfit s = ltb depth_limit s.depth || ltb (suc length_limit) s.bytes

-- A verdict was given: nothing else changes.
abbrev pub spend : Session → Session
spend s =
    record {
      spent = 1;
      depth = s.depth;
      bytes = s.bytes;
      number = s.number;
      offset = s.offset;
      rows = s.rows;
      words = s.words;
      version = s.version;
      stage = s.stage;
      width = s.width;
      segments = s.segments;
      held = s.held;
      parts = s.parts;
      run = s.run;
      x = s.x;
      y = s.y;
      members = s.members;
      buffer = s.buffer;
    }

-- ---- open

-- Opening answers 0, whatever it is lent, and begins anew.
pub record Opens (s' : Session) (r : Answer) : Type 0 where
  pub says : r ≡ answer accepted 0 0 0
  pub fresh : s'.spent ≡ 0
  pub empty : (s'.depth ≡ 0) × (s'.bytes ≡ 0)
  pub stands : Stands [] s'

-- ---- piece

pub record Pieces (s : Session) (piece : List ℕ) (s' : Session) (r : Answer) : Type 0 where
  pub says : r ≡ answer (cond (unfit s) no_session accepted) 0 0 0
  pub unfit-same : unfit s ≡ true → s' ≡ s
  -- after a verdict nothing changes
  pub spent-same : (s.spent ≡ 0 → ⊥) → s' ≡ s
  pub fresh : s.spent ≡ 0 → s'.spent ≡ 0
  pub stands : s.spent ≡ 0 → (bs : List ℕ) → Stands bs s → Stands (bs ++ piece) s'
  -- its count of bytes is that of all that were given, up to one more than the limit
  pub counts : s.spent ≡ 0 → (bs : List ℕ) → Stands bs s → s'.bytes ≡ min (length (bs ++ piece)) (suc length_limit)

-- ---- verdict

-- The reader's answer for these bytes with room enough: said of the drawing, and then by the reader's own definition.
pub record Verdict (bs : List ℕ) (r : Answer) : Type 0 where
  pub accepts : (d : Drawing) → IsFile bs d → r ≡ answer accepted (length bs) (rows_of d) (word_count d)
  pub refuses : (number offset : ℕ) → Refused bs number offset → r ≡ answer number offset 0 0
  pub one-or-other : ((d : Drawing) × IsFile bs d) ⊎ ((number : ℕ) × (offset : ℕ) × Refused bs number offset)
  -- `read` answers this wherever it is lent as many rows and words
  pub reads : (contents bodies : List ℕ) → r.rows ≤ length contents / row_width → r.words ≤ length bodies → r ≡ (read_result bs contents bodies).answer

-- What a session that is fit answers, whether opening began it or not. It is never 22.
abbrev pub verdict_in : Session → Answer
verdict_in s = cond (ltb length_limit s.bytes) (answer too_long length_limit 0 0) (cond (ltb s.number 14) (verdict_now s) (answer 2 0 0 0))

pub record Verdicts (s s' : Session) (r : Answer) : Type 0 where
  pub refused : unfit s ≡ true → (r ≡ answer no_session 0 0 0) × (s' ≡ s)
  -- any verdict spends the session, and nothing else in it changes
  pub given : unfit s ≡ false → (r ≡ verdict_in s) × (s' ≡ spend s)
  pub stands : (bs : List ℕ) → Stands bs s → Verdict bs r
