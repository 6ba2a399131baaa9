-- A pass over a segment of a path, with the point where it ends, as a contract.
use Rattle.std.specs.Prelude.{◌≡◌, Bool, true, false, cond, ◌||◌, ℕ, ◌+◌, ◌-◌, ◌*◌, ◌<◌, ◌≤◌, List, [], ◌∷◌, eqb, length, get_or}
use Rattle.std.proofs.Math.Option.{Option, none, some}
use Prim.Native.Char.{code}
use Rattle.format.specs.Kind.{Kind, Allowed}
use Rattle.format.specs.Script.{Script, ask}
use Rattle.format.specs.Format.{script}
use Rattle.format.specs.Layout.{Layout, field, repeat, threaded}
use Rattle.drawing.specs.Fields as F
use Rattle.drawing.specs.Path.{Point, Segment, segment, end_of}
use Rattle.ways.specs.declared.Pass.{Pass}
use Rattle.ways.specs.Way.{Way, source_units, target_units, value_at}
use Rattle.ways.specs.Passes.{refused, behind, Ready, stepped}
use Rattle.ways.specs.Runs.{copied}

-- ---- the fields of a segment

-- A line or a move.
abbrev pub straight : (letter : ℕ) → Bool
straight c = eqb c (code "L") || eqb c (code "M")

-- The letter of an outline: open or closed.
abbrev pub closed_letter : Kind
closed_letter = F.char_where (F.one_of_chars (code "O" ∷ code "C" ∷ []))

abbrev pub segment_letter : Kind
segment_letter = F.char_where (λ c. eqb c (code "L") || (eqb c (code "M") || eqb c (code "B")))

-- The doubles behind a letter that no start follows: a point, or for a curve three.
abbrev pub doubles_behind : (letter : ℕ) → ℕ
doubles_behind c = cond (straight c) 2 6

-- A letter that is allowed, with so many doubles.
pub record Letter (letter doubles : ℕ) : Type 0 where
  pub allowed : Allowed segment_letter letter
  pub doubles-are : doubles_behind letter ≡ doubles

-- So many segments, with starts of their own or without.
abbrev pub segments_of : (own : Bool) → (count : ℕ) → Option Point → Layout (List Segment)
segments_of own count at = threaded count (segment own) (λ before s. some (end_of s)) at

-- What a segment's fields, or some of them, ask for, and what comes behind by the point where it ends.
abbrev pub Asking : Type 0
Asking = (Point → Script (Unit {0})) → Script (Unit {0})

abbrev pub segment_then : (own : Bool) → Option Point → Asking
segment_then own at next = script (segment own at).format (λ s. next (end_of s))

-- The point that so many doubles end with.
abbrev pub last_point : (count : ℕ) → List ℕ → Point
last_point count vs = record { x = get_or vs (count - 2) 0; y = get_or vs (count - 1) 0 }

abbrev pub doubles_then : (count : ℕ) → Asking
doubles_then count next = script (repeat count (field F.double)).format (λ vs. next (last_point count vs))

-- A letter, so many doubles of a start that is free, and those behind it.
abbrev pub spelled : (start : ℕ) → Asking
spelled start next = ask segment_letter (λ c. doubles_then (start + doubles_behind c) next)

-- ---- places

-- The point that ends at a place of the source.
abbrev pub end_before : Way → List ℕ → ℕ → Point
end_before W us at = record { x = value_at W 8 us (at - 2 * source_units W 8); y = value_at W 8 us (at - source_units W 8) }

-- Where the segment before ended, if there is one.
abbrev pub before : Way → (first : Bool) → List ℕ → ℕ → Option Point
before W true us at = none
before W false us at = some (end_before W us at)

-- There is a place for that point.
pub record Follows (W : Way) (first : Bool) (us : List ℕ) (at : ℕ) : Type 0 where
  pub inside : at ≤ length us
  pub room : first ≡ false → 2 * source_units W 8 ≤ at

-- This point stands here.
pub record Stands (W : Way) (us : List ℕ) (at : ℕ) (p : Point) : Type 0 where
  pub inside : at + 2 * source_units W 8 ≤ length us
  pub x-is : value_at W 8 us at ≡ p.x
  pub y-is : value_at W 8 us (at + source_units W 8) ≡ p.y

-- The start behind the letter here is free, or the end before the letter.
pub record Joins (W : Way) (first : Bool) (us : List ℕ) (at : ℕ) : Type 0 where
  pub stands : first ≡ false → Stands W us (at + source_units W 2) (end_before W us at)

-- ---- contracts

-- A letter and so many points were moved.
pub record MovedSegment (W : Way) (points : ℕ) (us m m' : List ℕ) (at to : ℕ) (r : Pass) : Type 0 where
  pub is : r ≡ stepped W 8 (2 * points) (at + 1 * source_units W 2) (to + 1 * target_units W 2)
  pub memory-is : m' ≡ copied W 8 (2 * points) us (at + 1 * source_units W 2) (to + 1 * target_units W 2) (copied W 2 1 us at to m)

-- These fields were passed, and a point ends where the pass has come: what comes behind goes on by it.
pub record Ended (these : Asking) (W : Way) (us m m' : List ℕ) (at to : ℕ) (r : Pass) : Type 0 where
  pub runs : (next : Point → Script (Unit {0})) → behind W us m at to (these next) ≡ behind W us m' r.at r.to (next (end_before W us r.at))
  pub ready : Ready (length us) r.at r.to
  pub same_length : length m' ≡ length m
  pub room : r.at < refused → 2 * source_units W 8 ≤ r.at
