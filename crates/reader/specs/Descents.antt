-- What a descent over a file comes to: how far it has come, and what then stands in the memory of a table.
use Rattle.std.specs.Prelude.{◌≡◌, ℕ, ◌+◌, ◌-◌, ◌*◌, ◌<◌, ◌≤◌, List, length, drop}
use Rattle.format.specs.Codec.{Outcome, found, refused, and_then}
use Rattle.format.specs.Layout.{Layout, repeat}
use Rattle.format.specs.Parse.{parse}
use Rattle.format.specs.Pass.{put}
use Rattle.drawing.specs.Reading.{bytes}
use Rattle.drawing.specs.Limits.{length_limit}
use Rattle.drawing.specs.Object.{Object, group, of_list}
use Rattle.drawing.specs.ObjectLayout.{object, group_body}
use Rattle.drawing.specs.Table.{row_width, row as row_words, rows, rows_all, bodies, bodies_all, contents, contents_all}
use Rattle.ways.specs.Passes as Passes
use Rattle.ways.specs.Carries.{Laid}
use Rattle.ways.specs.Written.{Writes}
use Rattle.rows.specs.declared.walked.Walked.{Walked}
use Rattle.from_file.specs.Way.{way}

-- In a file of this length, that is not too long, a place with the rows and words counted up to it: each is at least a byte.
pub record Stands (total at row to : ℕ) : Type 0 where
  pub short : total ≤ length_limit
  pub inside : at ≤ total
  pub few-rows : row ≤ at
  pub few_words : to ≤ at

-- What something has in a table: the row behind it, the words of its rows, and those of its bodies.
pub record Part : Type 0 where
  pub next : ℕ
  pub contents : List ℕ
  pub bodies : List ℕ

-- It was met: the descent goes on behind it, and where its words fit they stand in the memory.
pub record Met (p : Part) (file cs bs cs' bs' : List ℕ) (at row to : ℕ) (r : Walked) (rest : List ℕ) : Type 0 where
  pub rest-is : rest ≡ drop r.at file
  pub inside : r.at ≤ length file
  pub row_is : r.row ≡ p.next
  pub to_is : r.to ≡ to + length p.bodies
  pub rows_written : Writes (row_width * row) p.contents cs cs'
  pub words-written : Writes to p.bodies bs bs'
  -- each row and each word is at least a byte
  pub few-rows : r.row + at ≤ r.at + row
  pub few_words : r.to + at ≤ r.at + to

-- It was refused.
pub record Stopped (file : List ℕ) (r : Walked) (n : ℕ) (place : List ℕ) : Type 0 where
  pub at-is : r.at ≡ length file - length place + Passes.refused
  pub to_is : r.to ≡ n

abbrev pub Comes : {A : Type 0} → (A → Part) → (file cs bs cs' bs' : List ℕ) → (at row to : ℕ) → Walked → Outcome A → Type 0
Comes part file cs bs cs' bs' at row to r (found a rest) = Met (part a) file cs bs cs' bs' at row to r rest
Comes part file cs bs cs' bs' at row to r (refused n place) = Stopped file r n place

-- The descent comes to what was parsed.
pub record Descends {A : Type 0} (part : A → Part) (o : Outcome A) (file cs bs cs' bs' : List ℕ) (at row to : ℕ) (r : Walked) : Type 0 where
  pub comes : Comes part file cs bs cs' bs' at row to r o

-- ---- objects

abbrev pub object_part : (version parent row to : ℕ) → Object → Part
object_part v parent row to o = record { next = row + rows o; contents = contents o v parent row to; bodies = bodies o v }

abbrev pub members_part : (version parent row to : ℕ) → List Object → Part
members_part v parent row to os =
    record {
      next = row + rows_all (of_list os);
      contents = contents_all (of_list os) v parent row to;
      bodies = bodies_all (of_list os) v;
    }

-- An object in which groups nest at most so deep.
abbrev pub object_at : (file : List ℕ) (version deep at : ℕ) → Outcome Object
object_at file v deep at = parse bytes (object v deep) (drop at file)

-- So many of them.
abbrev pub members_at : (file : List ℕ) (version deep n at : ℕ) → Outcome (List Object)
members_at file v deep n at = parse bytes (repeat n (object v deep)) (drop at file)

-- The group whose id stands before this place.
abbrev pub group_at : (file : List ℕ) (version deep at : ℕ) → Outcome Object
group_at file v deep at = and_then (parse bytes (group_body v (object v deep)) (drop at file)) (λ (os, d) rest. found (group os d) rest)

abbrev pub DescendsObject : (file : List ℕ) (version deep parent at row to : ℕ) (cs bs cs' bs' : List ℕ) → Walked → Type 0
DescendsObject file v deep parent at row to cs bs cs' bs' r =
    Descends (object_part v parent row to) (object_at file v deep at) file cs bs cs' bs' at row to r

abbrev pub DescendsMembers : (file : List ℕ) (version deep parent n at row to : ℕ) (cs bs cs' bs' : List ℕ) → Walked → Type 0
DescendsMembers file v deep parent n at row to cs bs cs' bs' r =
    Descends (members_part v parent row to) (members_at file v deep n at) file cs bs cs' bs' at row to r

abbrev pub DescendsGroup : (file : List ℕ) (version deep parent at row to : ℕ) (cs bs cs' bs' : List ℕ) → Walked → Type 0
DescendsGroup file v deep parent at row to cs bs cs' bs' r =
    Descends (object_part v parent row to) (group_at file v deep at) file cs bs cs' bs' at row to r

-- The fields of a body were passed, and behind them its row was stored, of this kind and with this start.
pub record Rowed {A : Type 0} (L : Layout A) (kind parent start row next : ℕ) (file cs bs cs' bs' : List ℕ) (at to : ℕ) (r : Walked) : Type 0 where
  pub laid : Laid L.format way file bs bs' at to r.at r.to
  pub rowed : r.at < Passes.refused → (r.row ≡ next) × (cs' ≡ put (row_width * row) (row_words kind parent start (r.to - start)) cs)
