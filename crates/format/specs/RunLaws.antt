-- A pass over a run of like fields: as many as are asked for are read and put one behind the other; or the run is refused.
use Rattle.std.specs.Prelude.{◌≡◌, List, [], ◌∷◌, ◌++◌, take, drop, get_or}
use Rattle.std.proofs.Math.Path.{refl, sym, ap, ap₂}
use Rattle.std.proofs.Common.{◌∙◌, append_assoc, append-nil, length-drop, drop-drop}
use Prim.Native.Nat.{ℕ, zero, suc, ◌+◌, ◌-◌, ◌*◌, ◌/◌, ◌%◌, ◌^◌, ◌<◌, ◌≤◌}
use Rattle.std.proofs.Math.Nat as Nat
use native.Mathlib.Omega.{arith}
use Rattle.std.proofs.Math.ListN.{length, length-append}
use Rattle.std.proofs.Math.Arith.{digits_div}
use Rattle.format.specs.Digits.{Below, number, digits}
use Rattle.format.specs.DigitsLaws.{length_digits}
use Rattle.format.specs.LeafLaws.{below_drop, field_below, field-add, digits-add}
use Rattle.format.specs.Kind.{Kind}
use Rattle.format.specs.Codec.{Outcome, found, refused}
use Rattle.format.specs.FixedCodec.{spell_fixed}
use Rattle.format.specs.FixedReading.{fixed}
use Rattle.format.specs.Script.{Script, ask}
use Rattle.format.specs.Format.{script_many}
use Rattle.format.specs.Pass.{Route, splice, put, Passed, onward, pass}
use Rattle.format.specs.SpliceLaws.{splice_nil, splice-behind}
use Rattle.format.specs.PassLaws.{Placed, read_placed, length-put, put-fits, put-short}
use Rattle.format.specs.Recode.{recoded, length-recoded}

-- ---- the values

-- The numbers of n fields of w units each, one behind the other.
abbrev pub values_at : (base w : ℕ) → List ℕ → (n at : ℕ) → List ℕ
values_at base w us zero at = []
values_at base w us (suc n) at = number base (take w (drop at us)) ∷ values_at base w us n (at + w)

-- Each of them by its place.
pub value_at_lem : (base w : ℕ) (us : List ℕ) (n at i : ℕ) → i < n → get_or (values_at base w us n at) i 0 ≡ number base (take w (drop (at + i * w) us))
value_at_lem base w us zero at i less = absurd (omega arith)
value_at_lem base w us (suc n) at zero less = let here : at + 0 * w ≡ at = omega arith in rw here
value_at_lem base w us (suc n) at (suc i) less =
    let there : at + w + i * w ≡ at + suc i * w = omega arith in
    value_at_lem base w us n (at + w) i (omega arith) ∙ ap (λ a. number base (take w (drop a us))) there

-- ---- the memory

module _ (base w other u : ℕ) (us : List ℕ) where
  -- n fields of w units each, put one behind the other as u units each, where they fit.
  unfoldable pub put_many : (n at to : ℕ) → List ℕ → List ℕ
  put_many zero at to m = m
  put_many (suc n) at to m = put_many n (at + w) (to + u) (put to (digits other u (number base (take w (drop at us)))) m)

  -- Where one does not fit, none behind it does.
  many-short : (n at to : ℕ) (m : List ℕ) → length m < to + u → put_many n at to m ≡ m
  unfolding put_many
  many-short zero at to m h = refl
  many-short (suc n) at to m h =
      let ws = digits other u (number base (take w (drop at us))) in
      let none : put to ws m ≡ m = put-short to ws m (rw (length_digits other u (number base (take w (drop at us)))) h) in
      ap (put_many n (at + w) (to + u)) none ∙ many-short n (at + w) (to + u) m (omega arith)

  -- The first of them that fit stand there, and the others do not fit.
  pub many_fit : (fit more at to : ℕ) (m : List ℕ) → (0 < fit → to + fit * u ≤ length m) → (0 < more → length m < to + fit * u + u)
      → put_many (fit + more) at to m ≡ splice to (recoded base w other u fit (drop at us)) m
  unfolding put_many
  many_fit zero zero at to m room full = sym (splice_nil to m)
  many_fit zero (suc more) at to m room full =
      ap (λ n. put_many n at to m) (Nat.zero-add (suc more)) ∙ many-short (suc more) at to m (omega (arith, full (omega arith))) ∙ sym (splice_nil to m)
  many_fit (suc fit) more at to m room full =
      let ws = digits other u (number base (take w (drop at us))) in
      let back = recoded base w other u fit (drop w (drop at us)) in
      let long : length ws ≡ u = length_digits other u (number base (take w (drop at us))) in
      let rest : length back ≡ fit * u = length-recoded base w other u fit (drop w (drop at us)) in
      let all : length (ws ++ back) ≡ length ws + length back = length-append ws back in
      let enough : to + suc fit * u ≤ length m = room (omega arith) in
      let first : to + length ws ≤ length m = omega arith in
      let kept : length (put to ws m) ≡ length m = length-put to ws m in
      ap (λ n. put_many n at to m) (Nat.suc-add fit more)
      ∙ many_fit fit more (at + w) (to + u) (put to ws m) (λ h. omega arith) (λ h. let f = full h in omega arith)
      ∙ ap₂ (λ b l. splice (to + u) b l) (ap (recoded base w other u fit) (sym (drop-drop w at us))) (put-fits to ws m first)
      ∙ ap (λ n. splice (to + n) back (splice to ws m)) (sym long)
      ∙ splice-behind to ws back m (omega arith)

  pub length-many : (n at to : ℕ) (m : List ℕ) → length (put_many n at to m) ≡ length m
  unfolding put_many
  length-many zero at to m = refl
  length-many (suc n) at to m =
      length-many n (at + w) (to + u) (put to (digits other u (number base (take w (drop at us)))) m)
      ∙ length-put to (digits other u (number base (take w (drop at us)))) m

-- Fields of two halves are twice as many halves, where the digits of both codecs come to the same.
module _ (base w other u : ℕ) (same : base ^ w ≡ other ^ u) (positive : 0 < other) where
  halves : (us : List ℕ) → Below base us → w + w ≤ length us
      → digits other (u + u) (number base (take (w + w) us)) ≡ digits other u (number base (take w us)) ++ digits other u (number base (take w (drop w us)))
  halves us below h =
      let a = number base (take w us) in
      let b = number base (take w (drop w us)) in
      let sum : number base (take (w + w) us) ≡ a * base ^ w + b = field-add base us 0 w w (omega arith) ∙ ap (λ n. a * base ^ w + number base (take w (drop n us))) (Nat.zero-add w) in
      let small : b < base ^ w = rw Nat.zero-add at (field_below base us (0 + w) w (omega arith) below) in
      let high : (a * base ^ w + b) / other ^ u ≡ a = rw (← same) (digits_div a small) in
      let low : (a * base ^ w + b) % other ^ u ≡ b = rw (← same) (Nat.mul-add-mod_self_right a (base ^ w) b ∙ Nat.mod-eq_of_lt small) in
      ap (digits other (u + u)) sum
      ∙ digits-add other positive u u (a * base ^ w + b)
      ∙ ap₂ (λ x y. digits other u x ++ digits other u y) high low

  pub recoded-halves : (n : ℕ) (us : List ℕ) → Below base us → n * (w + w) ≤ length us → recoded base (w + w) other (u + u) n us ≡ recoded base w other u (n + n) us
  recoded-halves zero us below h = ap (λ n. recoded base w other u n us) (sym (Nat.zero-add 0))
  recoded-halves (suc n) us below h =
      let first = digits other u (number base (take w us)) in
      let second = digits other u (number base (take w (drop w us))) in
      let twice : suc n + suc n ≡ suc (suc (n + n)) = omega arith in
      let rest : n * (w + w) ≤ length (drop (w + w) us) = rw length-drop (omega arith) in
      ap₂ (λ x y. x ++ y) (halves us below (omega arith)) (recoded-halves n (drop (w + w) us) (below_drop base (w + w) us below) rest)
      ∙ append_assoc first second (recoded base w other u (n + n) (drop (w + w) us))
      ∙ ap (λ l. first ++ (second ++ recoded base w other u (n + n) l)) (sym (drop-drop w w us))
      ∙ ap (λ k. recoded base w other u k us) (sym twice)

-- ---- the pass

-- A kind of field that is read as its number wherever that is small enough.
pub record Plain (R : Route) (us : List ℕ) (w u bound : ℕ) (k : Kind) : Type 0 where
  pub wide : R.source.width k.shape ≡ w
  pub far : R.target.width k.shape ≡ u
  pub reads : (at : ℕ) → at + w ≤ length us → number R.source.base (take w (drop at us)) < bound
      → (fixed R.source).read k (drop at us) ≡ found (number R.source.base (take w (drop at us))) (drop (at + w) us)

module _ {S A : Type 0} (R : Route) (us : List ℕ) (w u bound : ℕ) (kind : S → Kind) (next : S → ℕ → S) (plain : (s : S) → Plain R us w u bound (kind s)) where
  abbrev many : ℕ → S → (List ℕ → Script A) → Script A
  many n s K = script_many (λ t k. ask (kind t) k) next n s K

  -- The first m of m + n fields are passed, and n are to come, by some state.
  record Begun (m n : ℕ) (s : S) (K : List ℕ → Script A) (at to : ℕ) (l : List ℕ) : Type 0 where
    state : S
    says : pass R us (many (m + n) s K) at to l
        ≡ pass R us (many n state (λ as'. K (values_at R.source.base w us m at ++ as'))) (at + m * w) (to + m * u) (put_many R.source.base w R.target.base u us m at to l)

  begun : (m n : ℕ) (s : S) (K : List ℕ → Script A) (at to : ℕ) (l : List ℕ) → at + m * w ≤ length us
      → ((i : ℕ) → i < m → number R.source.base (take w (drop (at + i * w) us)) < bound) → Begun m n s K at to l
  unfolding put_many
  begun zero n s K at to l h small = record { state = s; says = rw (Nat.zero-add, Nat.zero-mul, Nat.zero-mul, Nat.add-zero, Nat.add-zero) }
  begun (suc m) n s K at to l h small =
      let v = number R.source.base (take w (drop at us)) in
      let here : at + 0 * w ≡ at = omega arith in
      let this : v < bound = rw here at (small 0 (omega arith)) in
      let p = plain s in
      let shift : (i : ℕ) → at + suc i * w ≡ at + w + i * w = λ i. omega arith in
      let more =
      begun m n (next s v) (λ as'. K (v ∷ as')) (at + w) (to + u) (put to (digits R.target.base u v) l) (omega arith)
      (λ i less. rw shift at (small (suc i) (omega arith)))
      in
      record {
        state = more.state;
        says =
            ap (λ k. pass R us (many k s K) at to l) (Nat.suc-add m n)
            ∙ ap (λ o. onward R at o (λ v. pass R us (many (m + n) (next s v) (λ as'. K (v ∷ as'))) (at + R.source.width (kind s).shape) (to + R.target.width (kind s).shape) (put to (spell_fixed R.target (kind s) v) l))) (p.reads at (omega arith) this)
            ∙ ap₂ (λ a b. pass R us (many (m + n) (next s v) (λ as'. K (v ∷ as'))) (at + a) (to + b) (put to (digits R.target.base b v) l)) p.wide p.far
            ∙ more.says
            ∙ ap₂ (λ a b. pass R us (many n more.state (λ as'. K (v ∷ (values_at R.source.base w us m (at + w) ++ as')))) a b (put_many R.source.base w R.target.base u us (suc m) at to l)) (sym (shift m)) (omega arith);
      }

  -- All of them are there: what comes behind goes on by their values.
  pub run-through : (n : ℕ) (s : S) (K : List ℕ → Script A) (at to : ℕ) (l : List ℕ) → at + n * w ≤ length us
      → ((i : ℕ) → i < n → number R.source.base (take w (drop (at + i * w) us)) < bound)
      → pass R us (script_many (λ t k. ask (kind t) k) next n s K) at to l
      ≡ pass R us (K (values_at R.source.base w us n at)) (at + n * w) (to + n * u) (put_many R.source.base w R.target.base u us n at to l)
  run-through n s K at to l h small =
      ap (λ k. pass R us (many k s K) at to l) (sym (Nat.add-zero n))
      ∙ (begun n 0 s K at to l h small).says
      ∙ ap (λ vs. pass R us (K vs) (at + n * w) (to + n * u) (put_many R.source.base w R.target.base u us n at to l)) (append-nil (values_at R.source.base w us n at))

  -- The first that does not fit is cut.
  pub run-cut : (missing : ℕ) → ((s : S) (at : ℕ) → length us - at < w → (fixed R.source).read (kind s) (drop at us) ≡ refused missing (drop at us))
      → (n : ℕ) (s : S) (K : List ℕ → Script A) (at to : ℕ) (l : List ℕ) → 0 < w → at ≤ length us → length us - at < n * w
      → ((i : ℕ) → i < (length us - at) / w → number R.source.base (take w (drop (at + i * w) us)) < bound)
      → pass R us (script_many (λ t k. ask (kind t) k) next n s K) at to l ≡ R.refusal missing (at + (length us - at) / w * w)
  run-cut missing cut n s K at to l positive inside short small =
      let fits : (length us - at) / w * w ≤ length us - at = Nat.div-mul-le_self (length us - at) w in
      let left : length us - at < (length us - at) / w * w + w = Nat.lt-div-mul-add positive in
      let fewer : (length us - at) / w < n = (Nat.div-lt_iff_lt-mul positive).1 short in
      cut_at ((length us - at) / w) (n - suc ((length us - at) / w)) (omega arith) (omega arith) (omega arith) small
    where
      cut_at : (m more : ℕ) → n ≡ m + suc more → at + m * w ≤ length us → length us - (at + m * w) < w → ((i : ℕ) → i < m → number R.source.base (take w (drop (at + i * w) us)) < bound)
          → pass R us (many n s K) at to l ≡ R.refusal missing (at + m * w)
      cut_at m more e there short small =
          let b = begun m (suc more) s K at to l there small in
          ap (λ k. pass R us (many k s K) at to l) e
          ∙ b.says
          ∙ ap (λ o. onward R (at + m * w) o (λ v. pass R us (many more (next b.state v) (λ as'. K (values_at R.source.base w us m at ++ (v ∷ as')))) (at + m * w + R.source.width (kind b.state).shape) (to + m * u + R.target.width (kind b.state).shape) (put (to + m * u) (spell_fixed R.target (kind b.state) v) (put_many R.source.base w R.target.base u us m at to l)))) (cut b.state (at + m * w) short)

-- Where every refusal comes to the same, a run that is cut or has a bad number comes to it.
module _ {S A : Type 0} (R : Route) (us : List ℕ) (kind : S → Kind) (next : S → ℕ → S) (c : Passed) (same : (n at : ℕ) → R.refusal n at ≡ c) (w : ℕ) (wide : (s : S) → R.source.width (kind s).shape ≡ w) where
  abbrev again : ℕ → S → (List ℕ → Script A) → Script A
  again n s K = script_many (λ t k. ask (kind t) k) next n s K

  -- One field, and what is so of the rest.
  one_more : (n : ℕ) (s : S) (K : List ℕ → Script A) (at to : ℕ) (l : List ℕ)
      → ((v : ℕ) (to' : ℕ) (l' : List ℕ) → at + w ≤ length us → pass R us (again n (next s v) (λ as'. K (v ∷ as'))) (at + w) to' l' ≡ c)
      → at ≤ length us → pass R us (again (suc n) s K) at to l ≡ c
  one_more n s K at to l more inside = by ((fixed R.source).read (kind s) (drop at us)) (read_placed R.source (kind s) (drop at us))
    where
      by : (o : Outcome ℕ) → Placed R.source (kind s) (drop at us) o
          → onward R at o (λ v. pass R us (again n (next s v) (λ as'. K (v ∷ as'))) (at + R.source.width (kind s).shape) (to + R.target.width (kind s).shape) (put to (spell_fixed R.target (kind s) v) l)) ≡ c
      by (found v rest) placed =
          let there : R.source.width (kind s).shape ≤ length us - at = rw length-drop at placed.0 in
          let e : R.source.width (kind s).shape ≡ w = wide s in
          ap (λ n'. pass R us (again n (next s v) (λ as'. K (v ∷ as'))) (at + n') (to + R.target.width (kind s).shape) (put to (spell_fixed R.target (kind s) v) l)) e
          ∙ more v (to + R.target.width (kind s).shape) (put to (spell_fixed R.target (kind s) v) l) (omega arith)
      by (refused x place) placed = same x at

  pub run_short : (n : ℕ) (s : S) (K : List ℕ → Script A) (at to : ℕ) (l : List ℕ) → at ≤ length us → length us - at < n * w
      → pass R us (script_many (λ t k. ask (kind t) k) next n s K) at to l ≡ c
  run_short zero s K at to l inside short = absurd (omega arith)
  run_short (suc n) s K at to l inside short =
      one_more n s K at to l (λ v to' l' there. run_short n (next s v) (λ as'. K (v ∷ as')) (at + w) to' l' there (omega arith)) inside

  pub run-bad : (i n : ℕ) (s : S) (K : List ℕ → Script A) (at to : ℕ) (l : List ℕ) → i < n → at ≤ length us
      → ((s : S) → (x : ℕ) × ((fixed R.source).read (kind s) (drop (at + i * w) us) ≡ refused x (drop (at + i * w) us)))
      → pass R us (script_many (λ t k. ask (kind t) k) next n s K) at to l ≡ c
  run-bad i zero s K at to l less inside bad = absurd (omega arith)
  run-bad zero (suc n) s K at to l less inside bad =
      let here : at + 0 * w ≡ at = omega arith in
      let b = bad s in
      let r : (fixed R.source).read (kind s) (drop at us) ≡ refused b.0 (drop at us) = rw here at b.1 in
      ap (λ o. onward R at o (λ v. pass R us (again n (next s v) (λ as'. K (v ∷ as'))) (at + R.source.width (kind s).shape) (to + R.target.width (kind s).shape) (put to (spell_fixed R.target (kind s) v) l))) r
      ∙ same b.0 at
  run-bad (suc i) (suc n) s K at to l less inside bad =
      let shift : at + suc i * w ≡ at + w + i * w = omega arith in
      one_more n s K at to l (λ v to' l' there. run-bad i n (next s v) (λ as'. K (v ∷ as')) (at + w) to' l' (omega arith) there (λ t. rw shift at (bad t))) inside
