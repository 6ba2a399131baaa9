-- Bytes written over some of an array, behind its first ones.
use Rattle.std.specs.Prelude.{◌≡◌, ℕ, ◌+◌, ◌-◌, ◌≤◌, List, ◌++◌, length, take, drop}
use Rattle.std.proofs.Common.{sym, ap, ◌∙◌, arith, length-append, length-take, length-drop}
use Rattle.std.proofs.lemmas.Slice.{take-put_mid}
use borrow.Rule.Slice.PartMut.{put_mid}
use Rattle.pieces.specs.Held.{first_of}
use Rattle.pieces.specs.HeldLaws.{take-first}

module _ (old : List ℕ) (at count : ℕ) (there : at + count ≤ length old) (new : List ℕ) (long : length new ≡ count) where
  pub written-long : length (put_mid at (at + count - at) old new) ≡ length old
  written-long =
      let left = drop (at + count - at) (drop at old) in
      let both = length-append (take at old) (new ++ left) in
      let behind = length-append new left in
      let before = length-take at old in
      let rest = length-drop (at + count - at) (drop at old) in
      let from = length-drop at old in
      let sum : length (take at old ++ (new ++ left)) ≡ length old = omega arith in
      sum

  -- The first ones, and then those.
  pub written_first : first_of (at + count) (put_mid at (at + count - at) old new) ≡ first_of at old ++ new
  written_first =
      let all = written-long in
      sym (take-first (at + count) (put_mid at (at + count - at) old new) (omega arith))
      ∙ take-put_mid at (at + count - at) old new (at + count) (omega arith) (omega arith)
      ∙ ap (λ l. l ++ new) (take-first at old (omega arith))
