-- Reading a field at a place, in a codec in which a number stands for one value at most: it is cut, at fault, or a value.
use Rattle.std.specs.Prelude.{◌≡◌, Bool, true, false, cond, ℕ, suc, ◌+◌, ◌-◌, ◌<◌, ◌≤◌, List, ltb, length, take, drop}
use Rattle.std.proofs.Common.{ap, ◌∙◌, arith, length-drop, take-append-drop, drop-drop, length-take-le, lt-ltb}
use Rattle.std.proofs.Math.Option.{none, some}
use Rattle.format.specs.Digits.{number}
use Rattle.format.specs.Kind.{Shape, Kind, values, Allowed}
use Rattle.format.specs.Codec.{found, refused}
use Rattle.format.specs.FixedReading.{fixed, standing, split_at, judged, verdict, conclude}
use Rattle.format.specs.FixedCodecLaws.{split_at-append, split_at-short}

-- The number under which a field of this kind is refused, by what its number stands for, 0 where it is allowed: what is no value of the field has a
-- fault of its own.
abbrev pub fault_of : (meaningless : ℕ) → Kind → ℕ → ℕ
fault_of meaningless k v = cond (ltb v (values k.shape)) (k.fault v) meaningless

module _ (base : ℕ) (width : Shape → ℕ) (meant : Shape → ℕ → ℕ) (missing meaningless : ℕ) (us : List ℕ) (at : ℕ) (k : Kind) where
  pub read_cut_lem : length us - at < width k.shape → (fixed (standing base width meant missing meaningless)).read k (drop at us) ≡ refused missing (drop at us)
  read_cut_lem h =
      let short : length (drop at us) < width k.shape = rw length-drop h in
      rw (split_at-short (drop at us) (width k.shape) short)

  module _ (v : ℕ) (inside : at + width k.shape ≤ length us) (is : v ≡ meant k.shape (number base (take (width k.shape) (drop at us)))) where
    whole : (fixed (standing base width meant missing meaningless)).read k (drop at us)
        ≡ conclude (verdict (standing base width meant missing meaningless) k (cond (ltb v (values k.shape)) (some v) none)) (drop at us) (drop (at + width k.shape) us)
    whole =
        let n = width k.shape in
        let here = drop at us in
        let room : n ≤ length here = rw length-drop (omega arith) in
        let parts : split_at n here ≡ some (take n here, drop n here) = rw take-append-drop at (split_at-append (take n here) (drop n here) n (length-take-le n here room)) in
        rw (parts, ← is, drop-drop n at us)

    -- As a fault's number tells.
    by_fault : (t : Bool) (n : ℕ) → cond t (k.fault v) meaningless ≡ suc n
        → conclude (verdict (standing base width meant missing meaningless) k (cond t (some v) none)) (drop at us) (drop (at + width k.shape) us) ≡ refused (suc n) (drop at us)
    by_fault true n e = ap (λ f. conclude (judged v f) (drop at us) (drop (at + width k.shape) us)) e
    by_fault false n e = ap (λ f. refused f (drop at us)) e

    pub read_fault : (n : ℕ) → fault_of meaningless k v ≡ suc n → (fixed (standing base width meant missing meaningless)).read k (drop at us) ≡ refused (suc n) (drop at us)
    read_fault n e = whole ∙ by_fault (ltb v (values k.shape)) n e

    pub read_value : Allowed k v → (fixed (standing base width meant missing meaningless)).read k (drop at us) ≡ found v (drop (at + width k.shape) us)
    read_value a = whole ∙ rw (lt-ltb v (values k.shape) a.fits, a.faultless)
