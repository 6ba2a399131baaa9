-- What walking over a table comes to, as the code has it: how far it has come, and what then stands in the file's memory.
use Rattle.std.specs.Prelude.{◌≡◌, Bool, true, false, ℕ, ◌+◌, ◌-◌, ◌*◌, ◌<◌, ◌≤◌, List, ◌++◌, eqb, length, drop, get_or}
use Prim.Native.Char.{code}
use Rattle.format.specs.Digits.{digits}
use Rattle.format.specs.Kind.{Allowed}
use Rattle.format.specs.Layout.{repeat}
use Rattle.drawing.specs.Limits.{length_limit}
use Rattle.drawing.specs.Fields.{member_count}
use Rattle.drawing.specs.String.{String, equal}
use Rattle.drawing.specs.Object.{Objects}
use Rattle.drawing.specs.LeafLayout.{object_end}
use Rattle.drawing.specs.ObjectLayout.{object, group_body}
use Rattle.drawing.specs.Table as Table
use Rattle.drawing.specs.Table.{group_kind, group_own, row_width, start_in}
use Rattle.drawing.specs.TableDrawing.{Place, Walk, met, lost, onward, provided, body, walk_leaf, walk_object, walk_many, walk_group}
use Rattle.laws.specs.ObjectBytes.{bytes_of}
use Rattle.ways.specs.declared.Pass.{Pass}
use Rattle.ways.specs.Passes.{refused}
use Rattle.ways.specs.Written.{Writes}
use Rattle.rows.specs.declared.walked.Walked.{Walked}
use Rattle.rows.specs.Rows.{row_at}

-- A place of the walk: the next row, and the next word.
abbrev pub place_at : (contents words : List ℕ) → (row at : ℕ) → Place
place_at cs ws row at = record { row = row; contents = drop (row_width * row) cs; at = at; bodies = drop at ws }

-- The walk goes on at a row and a place. Neither run is too long for an acceptable file, and what was written so far is at most eight bytes for each
-- word and each row, so that no sum is too large.
pub record Stands (cs ws : List ℕ) (row at to : ℕ) : Type 0 where
  pub short : length ws ≤ length_limit
  pub inside : at ≤ length ws
  pub short-rows : length cs ≤ row_width * length_limit
  pub rows_inside : row_width * row ≤ length cs
  pub few : to ≤ 64 + 8 * at + 8 * row

-- The walk has met something: it goes on behind it, and where its bytes fit they stand in the memory.
pub record Met {A : Type 0} (bytes_in : A → List ℕ) (cs ws m m' : List ℕ) (to : ℕ) (r : Walked) (a : A) (q : Place) : Type 0 where
  pub place_is : q ≡ place_at cs ws r.row r.at
  pub to_is : r.to ≡ to + length (bytes_in a)
  pub written : Writes to (bytes_in a) m m'
  pub next : Stands cs ws r.row r.at r.to

abbrev pub Comes : {A : Type 0} → (A → List ℕ) → (cs ws m m' : List ℕ) → (to : ℕ) → Walked → Walk A → Type 0
Comes bytes_in cs ws m m' to r (met a q) = Met bytes_in cs ws m m' to r a q
Comes bytes_in cs ws m m' to r lost = refused ≤ r.at

-- The code has walked as the definition does.
pub record Walks {A : Type 0} (bytes_in : A → List ℕ) (walk : Walk A) (cs ws m m' : List ℕ) (to : ℕ) (r : Walked) : Type 0 where
  pub comes : Comes bytes_in cs ws m m' to r walk
  pub same_length : length m' ≡ length m

-- ---- objects

-- What was come to behind a body: the next row, if the body's row is the one for it.
pub record Rowed (words : List ℕ) (kind parent start next : ℕ) (behind : Pass) (r : Walked) : Type 0 where
  pub gone : refused ≤ behind.at → refused ≤ r.at
  pub right : behind.at < refused → equal words (Table.row kind parent start (behind.at - start)) ≡ true → r ≡ record { row = next; at = behind.at; to = behind.to }
  pub wrong : equal words (Table.row kind parent start (behind.at - start)) ≡ false → refused ≤ r.at

-- A leaf whose row is there; its bytes are the same however deep groups may nest.
abbrev pub WalksLeaf : (version parent row : ℕ) → (cs ws m m' : List ℕ) → (at to : ℕ) → Walked → Type 0
WalksLeaf v parent row cs ws m m' at to r =
    (deep : ℕ) → Walks (bytes_of (object v deep)) (walk_leaf v parent (row_at cs row) (place_at cs ws (row + 1) at)) cs ws m m' to r

-- An object in which groups nest at most so deep.
abbrev pub WalksObject : (version deep parent row : ℕ) → (cs ws m m' : List ℕ) → (at to : ℕ) → Walked → Type 0
WalksObject v deep parent row cs ws m m' at to r = Walks (bytes_of (object v deep)) (walk_object v deep parent (place_at cs ws row at)) cs ws m m' to r

-- So many of them.
abbrev pub WalksMany : (version deep parent count row : ℕ) → (cs ws m m' : List ℕ) → (at to : ℕ) → Walked → Type 0
WalksMany v deep parent n row cs ws m m' at to r =
    Walks (λ os. bytes_of (repeat n (object v deep)) os) (walk_many n (λ q. walk_object v deep parent q) (place_at cs ws row at)) cs ws m m' to r

-- ---- groups

-- A count of members stands here.
pub record Counted (ws : List ℕ) (start : ℕ) : Type 0 where
  pub inside : start < length ws
  pub allowed : Allowed member_count (get_or ws start 0)

pub record Counts (ws : List ℕ) (start : ℕ) (r : Bool) : Type 0 where
  pub yes : r ≡ true → Counted ws start
  pub no : r ≡ false → Counted ws start → ⊥

-- How many members a group has: it says so where its row says that its body begins.
abbrev pub members_in : (cs ws : List ℕ) → (row : ℕ) → ℕ
members_in cs ws row = get_or ws (start_in cs row) 0

-- A group's own body, whose count has to be this number.
abbrev pub walk_own : (version parent members : ℕ) → (words : List ℕ) → Place → Walk String
walk_own v parent n words q = onward (body (group_own v) group_kind parent words q) (λ own r. provided (eqb own.0 n) (met own.1 r))

abbrev pub WalksOwn : (version parent row next : ℕ) → (cs ws m m' : List ℕ) → (at to : ℕ) → Walked → Type 0
WalksOwn v parent row next cs ws m m' at to r =
    Walks (bytes_of (object_end v)) (walk_own v parent (members_in cs ws row) (row_at cs row) (place_at cs ws next at)) cs ws m m' to r

-- A group's id and the count of its members; and its id, with all that follows it.
abbrev pub opening_bytes : (members : ℕ) → List ℕ
opening_bytes n = digits 256 2 (code "G") ++ digits 256 4 n

abbrev pub group_bytes : (version deep : ℕ) → Objects × String → List ℕ
group_bytes v deep t = digits 256 2 (code "G") ++ bytes_of (group_body v (object v deep)) t

-- A group whose row is there, and in whose members groups nest at most so deep.
abbrev pub WalksGroup : (version deep parent row : ℕ) → (cs ws m m' : List ℕ) → (at to : ℕ) → Walked → Type 0
WalksGroup v deep parent row cs ws m m' at to r =
    Walks (group_bytes v deep) (walk_group v (λ q. walk_object v deep row q) parent (row_at cs row) (place_at cs ws (row + 1) at)) cs ws m m' to r
