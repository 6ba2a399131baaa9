-- The laws of runs of fields put into memory: those that fit are stored, and then all is as if each had been put by itself.
use Rattle.std.specs.Prelude.{◌≡◌, refl, ℕ, ◌+◌, ◌-◌, ◌*◌, ◌/◌, ◌^◌, ◌<◌, ◌≤◌, List, [], ◌∷◌, length, drop}
use Rattle.std.proofs.Common.{sym, ap, ◌∙◌, arith, length-drop}
use Rattle.std.proofs.Math.Nat as Nat
use Rattle.format.specs.Digits.{Below}
use Rattle.format.specs.LeafLaws.{below_drop}
use Rattle.format.specs.Pass.{splice}
use Rattle.format.specs.Recode.{recoded}
use Rattle.format.specs.RunLaws.{put_many, many_fit, length-many, recoded-halves}
use Rattle.memory.specs.Runs.{Fitting, Room}

-- ---- how many fit

module _ (space to far count : ℕ) (positive : 0 < far) (inside : to ≤ space) where
  pub fitting_all : count < (space - to) / far → Fitting space to far count count
  fitting_all h =
      let d : (space - to) / far * far ≤ space - to = Nat.div-mul-le_self (space - to) far in
      let m : count * far ≤ (space - to) / far * far = Nat.mul-le-mul_right far (omega arith) in
      record { most = omega arith; room = λ some. omega arith; full = λ less. absurd (omega arith) }

  pub fitting_some : (space - to) / far ≤ count → Fitting space to far count ((space - to) / far)
  fitting_some h =
      let d : (space - to) / far * far ≤ space - to = Nat.div-mul-le_self (space - to) far in
      let l : space - to < (space - to) / far * far + far = Nat.lt-div-mul-add positive in
      record { most = h; room = λ some. omega arith; full = λ less. omega arith }

-- ---- what is stored

module _ (base w other u : ℕ) (us m : List ℕ) (at to : ℕ) where
  -- Into no memory nothing is put.
  pub run_nowhere : (count : ℕ) → length m ≡ 0 → m ≡ put_many base w other u us count at to m
  run_nowhere count none = by m (put_many base w other u us count at to m) none (length-many base w other u us count at to m)
    where
      by : (l l' : List ℕ) → length l ≡ 0 → length l' ≡ length l → l ≡ l'
      by [] [] none same = refl
      by [] (x ∷ l') none same = absurd (omega arith)
      by (x ∷ l) l' none same = absurd (omega arith)

  module _ {count fit : ℕ} (fitting : Fitting (length m) to u count fit) where
    pub run_room : at + count * w ≤ length us → Room us at w u fit to (length m)
    run_room inside =
        let less : fit * w ≤ count * w = Nat.mul-le-mul_right w fitting.most in
        record { inside = omega arith; fits = fitting.room }

    stored : put_many base w other u us count at to m ≡ splice to (recoded base w other u fit (drop at us)) m
    stored =
        let all : fit + (count - fit) ≡ count = omega (arith, fitting.most) in
        ap (λ n. put_many base w other u us n at to m) (sym all) ∙ many_fit base w other u us fit (count - fit) at to m fitting.room (λ more. fitting.full (omega arith))

    pub run-stored : {m' : List ℕ} → m' ≡ splice to (recoded base w other u fit (drop at us)) m → m' ≡ put_many base w other u us count at to m
    run-stored is = is ∙ sym stored

    -- To put those that fit is to put all.
    pub run_fitting : {m' : List ℕ} → m' ≡ put_many base w other u us fit at to m → m' ≡ put_many base w other u us count at to m
    run_fitting is =
        let fits : fit + 0 ≡ fit = Nat.add-zero fit in
        run-stored
        (is
        ∙ ap (λ n. put_many base w other u us n at to m) (sym fits)
        ∙ many_fit base w other u us fit 0 at to m fitting.room (λ more. absurd (omega arith)))

-- A run of doubles is one of twice as many words.
module _ (base w other u : ℕ) (same : base ^ w ≡ other ^ u) (positive : 0 < other) (us m : List ℕ) (below : Below base us) (at to : ℕ) {count fit : ℕ} (fitting : Fitting (length m) to (u + u) count fit) (inside : at + count * (w + w) ≤ length us) where
  less : fit * (w + w) ≤ count * (w + w)
  less = Nat.mul-le-mul_right (w + w) fitting.most

  pub halves-room : Room us at w u (fit + fit) to (length m)
  halves-room = record { inside = omega (arith, less); fits = λ some. omega (arith, fitting.room (omega arith)) }

  pub halves-stored : {m' : List ℕ} → m' ≡ splice to (recoded base w other u (fit + fit) (drop at us)) m → m' ≡ put_many base (w + w) other (u + u) us count at to m
  halves-stored is =
      let there : fit * (w + w) ≤ length (drop at us) = rw length-drop (omega (arith, less)) in
      run-stored base (w + w) other (u + u) us m at to fitting
      (is ∙ ap (λ ws. splice to ws m) (sym (recoded-halves base w other u same positive fit (drop at us) (below_drop base at us below) there)))
