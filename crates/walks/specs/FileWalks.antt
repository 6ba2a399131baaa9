-- What walking over a whole table comes to: its drawing, counted, with the drawing's file in the memory where it fits; or a refusal.
use Rattle.std.specs.Prelude.{◌≡◌, ◌&&◌, ℕ, ◌+◌, ◌-◌, ◌<◌, ◌≤◌, List, [], ◌++◌, leb, length}
use Rattle.std.proofs.Math.Option.{Option, none, some}
use Rattle.format.specs.Digits.{digits}
use Rattle.drawing.specs.Limits.{depth_limit, length_limit}
use Rattle.drawing.specs.Fields.{jdr, version_zero}
use Rattle.drawing.specs.String.{String, equal}
use Rattle.drawing.specs.Object.{Objects}
use Rattle.drawing.specs.Drawing.{Drawing, file_of}
use Rattle.drawing.specs.TableDrawing.{Walk, met, onward, provided, walk_outer, drawing_of_table}
use Rattle.drawing.specs.Answers.{rows_of, word_count}
use Rattle.ways.specs.Passes.{refused}
use Rattle.rows.specs.declared.walked.Walked.{Walked}
use Rattle.ways.specs.Written.{Writes}
use Rattle.walks.specs.Walks.{place_at, Walks, group_bytes}

-- The bytes of a file before its settings: the magic, and the version with its length.
abbrev pub head_bytes : ℕ → List ℕ
head_bytes v = digits 256 6 jdr ++ (digits 256 4 3 ++ digits 256 6 (version_zero + v))

-- The outer group, with nothing behind it in rows and words, and with a file that is not too long, of which so much stands before the group.
abbrev pub walk_whole : ℕ → (cs ws : List ℕ) → (at to : ℕ) → Walk (Objects × String)
walk_whole v cs ws at to =
    onward (walk_outer v (place_at cs ws 0 at)) (λ t q.
    provided (equal q.contents [] && equal q.bodies [] && leb (to + length (group_bytes v (depth_limit - 1) t)) length_limit) (met t q))

abbrev pub WalksOuter : ℕ → (cs ws m m' : List ℕ) → (at to : ℕ) → Walked → Type 0
WalksOuter v cs ws m m' at to r = Walks (group_bytes v (depth_limit - 1)) (walk_whole v cs ws at to) cs ws m m' to r

pub record Whole (d : Drawing) (m m' : List ℕ) (r : Walked) : Type 0 where
  pub on : r.at < refused
  pub to_is : r.to ≡ length (file_of d)
  pub rows_are : r.row ≡ rows_of d
  pub words_are : r.at ≡ word_count d
  pub written : Writes 0 (file_of d) m m'

abbrev pub TableComes : (m m' : List ℕ) → Walked → Option Drawing → Type 0
TableComes m m' r none = refused ≤ r.at
TableComes m m' r (some d) = Whole d m m' r

pub record WalksTable (cs ws m m' : List ℕ) (r : Walked) : Type 0 where
  pub comes : TableComes m m' r (drawing_of_table cs ws)
  pub same_length : length m' ≡ length m
