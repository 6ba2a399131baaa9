-- One field of a file that is no flag, by the number that its bytes write: it is cut, at fault, or a value.
use Rattle.std.specs.Prelude.{◌≡◌, refl, cond, ℕ, zero, suc, ◌+◌, ◌^◌, ◌<◌, ◌≤◌, List, leb, length, take, drop}
use Rattle.std.proofs.Common.{sym, ap, ◌∙◌, arith, lt-ltb, le-leb}
use Rattle.std.proofs.lemmas.Bool.{lt-leb}
use Rattle.format.specs.Digits.{Below, number}
use Rattle.format.specs.LeafLaws.{field_below}
use Rattle.format.specs.Kind.{Kind, size, values}
use Rattle.format.specs.Codec.{found, refused}
use Rattle.format.specs.LiteralLaws.{read_cut_lem, read_fault, read_value}
use Rattle.drawing.specs.Codecs.{meant}
use Rattle.drawing.specs.FlagLaws.{meant-plain, full_plain}
use Rattle.drawing.specs.Reading.{bytes}

abbrev pub number_at : (size : ℕ) → List ℕ → ℕ → ℕ
number_at n file at = number 256 (take n (drop at file))

-- What is wrong with a field at a place, 0 for nothing.
abbrev pub fault_at : Kind → List ℕ → ℕ → ℕ
fault_at k file at = cond (leb (at + size k.shape) (length file)) (k.fault (number_at (size k.shape) file at)) 2

module _ (k : Kind) (file : List ℕ) (at : ℕ) where
  pub fault_there : {c n : ℕ} → at + size k.shape ≤ length file → c ≡ number_at (size k.shape) file at → n ≡ k.fault c → n ≡ fault_at k file at
  fault_there inside is fault-is =
      fault-is ∙ ap k.fault is ∙ sym (ap (λ t. cond t (k.fault (number_at (size k.shape) file at)) 2) (le-leb (at + size k.shape) (length file) inside))

  pub fault_cut : length file < at + size k.shape → 2 ≡ fault_at k file at
  fault_cut short = sym (ap (λ t. cond t (k.fault (number_at (size k.shape) file at)) 2) (lt-leb (at + size k.shape) (length file) short))

module _ (file : List ℕ) (below : Below 256 file) (k : Kind) (all : values k.shape ≡ 256 ^ size k.shape) (at : ℕ) where
  pub cut-here : at ≤ length file → length file < at + size k.shape → bytes.read k (drop at file) ≡ refused 2 (drop at file)
  cut-here inside short = read_cut_lem 256 size meant 2 5 file at k (omega arith)

  module _ (inside : at + size k.shape ≤ length file) where
    small : number_at (size k.shape) file at < values k.shape
    small = rw all (field_below 256 file at (size k.shape) inside below)

    same : number_at (size k.shape) file at ≡ meant k.shape (number_at (size k.shape) file at)
    same = sym (meant-plain k.shape (number_at (size k.shape) file at) (full_plain k.shape (size k.shape) refl all))

    pub fault_here : (n : ℕ) → k.fault (number_at (size k.shape) file at) ≡ n → 0 < n → bytes.read k (drop at file) ≡ refused n (drop at file)
    fault_here zero is some = absurd (omega arith)
    fault_here (suc n) is some =
        read_fault 256 size meant 2 5 file at k (number_at (size k.shape) file at) inside same n
        (ap (λ t. cond t (k.fault (number_at (size k.shape) file at)) 5) (lt-ltb (number_at (size k.shape) file at) (values k.shape) small) ∙ is)

    pub value_here : k.fault (number_at (size k.shape) file at) ≡ 0 → bytes.read k (drop at file) ≡ found (number_at (size k.shape) file at) (drop (at + size k.shape) file)
    value_here fine = read_value 256 size meant 2 5 file at k (number_at (size k.shape) file at) inside same (record { fits = small; faultless = fine })
