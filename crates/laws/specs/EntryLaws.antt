-- The entries of a label are all the rows with that description, once each, in the order in which the objects open.
use Rattle.std.specs.Prelude.{◌≡◌, refl, ◌↔◌, ◌⊎◌, Bool, true, false, cond, ℕ, zero, suc, ◌+◌, ◌<◌, ◌≤◌, length, get_or}
use Rattle.std.proofs.Common.{inl, inr, zero-add, arith}
use Rattle.std.proofs.Math.Logic.{∥∥₁_elim}
use Rattle.std.proofs.lemmas.Bool.{false≢true}
use Rattle.std.proofs.Math.Bridge.{le_prop}
use mathlib.Core.List.{List, [], ◌∷◌, Pairwise}
use mathlib.Core.List.Memᴰ
use mathlib.Core.List.{Memᴰ}
use Rattle.drawing.specs.String.{String, equal}
use Rattle.drawing.specs.Object.{Object}
use Rattle.drawing.specs.Drawing.{Drawing, outer}
use Rattle.drawing.specs.Table.{rows}
use Rattle.drawing.specs.Order.{objects_of, description_of, entries_from, entries}
use Rattle.laws.specs.EqualLaws.{equal_iff}
use Rattle.laws.specs.OrderLaws.{rows-preorder, shift}

-- A row that is kept, ahead of the rest, if the test says so.
module _ (n : ℕ) (rest : List ℕ) where
  kept_iff : {P : Type 0} (r : ℕ) (t : Bool) → (t ≡ true) ↔ P → Memᴰ r (cond t (n ∷ rest) rest) ↔ ((P × (r ≡ n)) ⊎ Memᴰ r rest)
  kept_iff r true says = (
    λ m. elim (Memᴰ.cases_cons m) [ inl e ↦ inl (says.0 refl, e) | inr m ↦ inr m ],
    λ c. elim c [ inl e ↦ Memᴰ.head e.1 | inr m ↦ Memᴰ.tail m ],
  )
  kept_iff r false says = (inr, λ c. elim c [ inl e ↦ absurd (false≢true (says.1 e.0)) | inr m ↦ m ])

  kept-increasing : (t : Bool) → ((r : ℕ) → Memᴰ r rest → n < r) → Pairwise ◌<◌ rest → Pairwise ◌<◌ (cond t (n ∷ rest) rest)
  kept-increasing true h p = Pairwise.cons (λ r m. ∥∥₁_elim m le_prop (h r)) p
  kept-increasing false h p = p

  kept-length : (t : Bool) (k : ℕ) → length rest ≤ k → length (cond t (n ∷ rest) rest) ≤ suc k
  kept-length true k h = omega arith
  kept-length false k h = omega arith

-- z is what get_or gives past the last object, where no entry is.
module _ (label : String) (z : Object) where
  first_iff : (n : ℕ) (o : Object) (os : List Object) (r : ℕ)
      → Memᴰ r (entries_from n label (o ∷ os)) ↔ (((description_of o ≡ label) × (r ≡ n)) ⊎ Memᴰ r (entries_from (suc n) label os))
  first_iff n o os r = kept_iff n _ r _ (equal_iff (description_of o) label)

  -- That a row is that of an object with the label, among objects of which the first has row n.
  record Entry (n : ℕ) (os : List Object) (r : ℕ) : Type 0 where
    place : ℕ
    row : r ≡ n + place
    inside : place < length os
    labelled : description_of (get_or os place z) ≡ label

  entry : (n : ℕ) (os : List Object) (r : ℕ) → Memᴰ r (entries_from n label os) → Entry n os r
  entry n [] r m = absurd (Memᴰ.not-nil m)
  entry n (o ∷ os) r m =
      elim ((first_iff n o os r).0 m) [
        | inl e ↦ record { place = 0; row = omega arith; inside = omega arith; labelled = e.0 }
        | inr m ↦ let i = entry (suc n) os r m in record { place = suc i.place; row = omega arith; inside = omega arith; labelled = i.labelled }
      ]

  entered : (n : ℕ) (os : List Object) (i : ℕ) → i < length os → description_of (get_or os i z) ≡ label → Memᴰ (n + i) (entries_from n label os)
  entered n [] i h e = absurd (omega arith)
  entered n (o ∷ os) zero h e = (first_iff n o os (n + zero)).1 (inl (e, omega arith))
  entered n (o ∷ os) (suc i) h e = (first_iff n o os (n + suc i)).1 (inr (rw shift (entered (suc n) os i (omega arith) e)))

  increasing : (n : ℕ) (os : List Object) → Pairwise ◌<◌ (entries_from n label os)
  increasing n [] = Pairwise.nil
  increasing n (o ∷ os) =
      kept-increasing n _ (equal (description_of o) label) (λ r m. let i = entry (suc n) os r m in omega arith) (increasing (suc n) os)

  length_le : (n : ℕ) (os : List Object) → length (entries_from n label os) ≤ length os
  length_le n [] = omega arith
  length_le n (o ∷ os) = kept-length n _ (equal (description_of o) label) (length os) (length_le (suc n) os)

-- The entries of a label are the rows of the objects with that description.
pub entries_are : (label : String) (d : Drawing) (r : ℕ)
    → Memᴰ r (entries label d) ↔ ((r < rows (outer d)) × (description_of (get_or (objects_of d) r (outer d)) ≡ label))
entries_are label d r =
    let l = rows-preorder (outer d) in (
      λ m.
          let i = entry label (outer d) 0 (objects_of d) r m in
          let s : i.place ≡ r = omega arith in
          (omega arith, rw s at i.labelled),
      λ c. rw zero-add at (entered label (outer d) 0 (objects_of d) r (omega arith) c.1),
    )

-- Each entry is below all that follow: each once, in the order in which the objects open.
pub entries-increasing : (label : String) (d : Drawing) → Pairwise ◌<◌ (entries label d)
entries-increasing label d = increasing label (outer d) 0 (objects_of d)

pub entries-length_le : (label : String) (d : Drawing) → length (entries label d) ≤ rows (outer d)
entries-length_le label d = rw (← rows-preorder (outer d)) (length_le label (outer d) 0 (objects_of d))
