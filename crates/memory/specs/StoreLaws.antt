-- A run of fields stored one behind the other, some at a time. What was stored may be stored over: whatever stood there before is gone.
use Rattle.std.specs.Prelude.{◌≡◌, refl, ℕ, zero, suc, ◌+◌, ◌-◌, ◌*◌, ◌<◌, ◌≤◌, List, ◌++◌, length, take, drop, get_or}
use Rattle.std.proofs.Common.{sym, ap, ap₂, ◌∙◌, arith, append_assoc, append-nil, length-append, drop-drop, take_at, drop_at, length-take-le}
use Rattle.std.proofs.Math.Nat as Nat
use Rattle.format.specs.Digits.{number, digits}
use Rattle.format.specs.Recode.{recoded, length-recoded}
use Rattle.format.specs.Pass.{splice}
use Rattle.format.specs.SpliceLaws.{splice_nil, splice-behind, length-splice}
use Rattle.memory.specs.Runs.{Room}

-- ---- storing over

splice-again : (place : ℕ) (a b s : List ℕ) → length a ≤ length b → place + length b ≤ length s → splice place b (splice place a s) ≡ splice place b s
splice-again place a b s less h =
    let front : length (take place s) ≡ place = length-take-le place s (omega arith) in
    let back = drop (place + length a) s in
    let seam : length (take place s ++ a) ≡ place + length a = length-append (take place s) a ∙ ap (λ n. n + length a) front in
    let k = length b - length a in
    let ends : place + length a + k ≡ place + length b = omega arith in
    let same : splice place a s ≡ (take place s ++ a) ++ back = sym (append_assoc (take place s) a back) in
    let firsts : take place (splice place a s) ≡ take place s = take_at (take place s) (a ++ back) place front in
    let rests : drop (place + length b) (splice place a s) ≡ drop (place + length b) s =
    ap (λ n. drop n (splice place a s)) (sym ends)
    ∙ sym (drop-drop k (place + length a) (splice place a s))
    ∙ ap (λ l. drop k (drop (place + length a) l)) same
    ∙ ap (drop k) (drop_at (take place s ++ a) back (place + length a) seam)
    ∙ drop-drop k (place + length a) s
    ∙ ap (λ n. drop n s) ends in
    ap (λ l. l ++ (b ++ drop (place + length b) (splice place a s))) firsts ∙ ap (λ l. take place s ++ (b ++ l)) rests

splice-over : (place : ℕ) (a c b s : List ℕ) → length c ≤ length b → place + length (a ++ b) ≤ length s → splice (place + length a) b (splice place (a ++ c) s) ≡ splice place (a ++ b) s
splice-over place a c b s less h =
    let long : length (a ++ b) ≡ length a + length b = length-append a b in
    let before : length (a ++ c) ≡ length a + length c = length-append a c in
    let kept : length (splice place a s) ≡ length s = length-splice place a s (omega arith) in
    ap (splice (place + length a) b) (sym (splice-behind place a c s (omega arith)))
    ∙ splice-again (place + length a) c b (splice place a s) less (omega arith)
    ∙ splice-behind place a b s h

module _ (base w other u : ℕ) where
  -- Some fields of a run, and then the others.
  recoded-add : (m n : ℕ) (us : List ℕ) → recoded base w other u (m + n) us ≡ recoded base w other u m us ++ recoded base w other u n (drop (m * w) us)
  recoded-add zero n us = rw (Nat.zero-add, Nat.zero-mul)
  recoded-add (suc m) n us =
      let first = digits other u (number base (take w us)) in
      let some = recoded base w other u m (drop w us) in
      let shift : w + m * w ≡ suc m * w = omega arith in
      ap (λ i. recoded base w other u i us) (Nat.suc-add m n)
      ∙ ap (λ l. first ++ l) (recoded-add m n (drop w us))
      ∙ ap (λ l. first ++ (some ++ recoded base w other u n l)) (drop-drop (m * w) w us ∙ ap (λ i. drop i us) shift)
      ∙ sym (append_assoc first some (recoded base w other u n (drop (suc m * w) us)))

  -- n fields were stored, and then k from the m-th on, some of them again.
  stored-over : (us start : List ℕ) (from to m k n : ℕ) → to + (m + k) * u ≤ length start → m ≤ n → n ≤ m + k → {s t : List ℕ} → s ≡ splice to (recoded base w other u n (drop from us)) start
      → t ≡ splice (to + m * u) (recoded base w other u k (drop (from + m * w) us)) s → t ≡ splice to (recoded base w other u (m + k) (drop from us)) start
  stored-over us start from to m k n room less most {s} {t} before now =
      let a = recoded base w other u m (drop from us) in
      let b = recoded base w other u k (drop (from + m * w) us) in
      let c = recoded base w other u (n - m) (drop (m * w) (drop from us)) in
      let split : m + (n - m) ≡ n = omega arith in
      let a-long : length a ≡ m * u = length-recoded base w other u m (drop from us) in
      let b-long : length b ≡ k * u = length-recoded base w other u k (drop (from + m * w) us) in
      let c-long : length c ≡ (n - m) * u = length-recoded base w other u (n - m) (drop (m * w) (drop from us)) in
      let fewer : n - m ≤ k = omega arith in
      let shorter : (n - m) * u ≤ k * u = Nat.mul-le-mul_right u fewer in
      let all-long : length (a ++ b) ≡ length a + length b = length-append a b in
      let was : recoded base w other u n (drop from us) ≡ a ++ c = ap (λ i. recoded base w other u i (drop from us)) (sym split) ∙ recoded-add m (n - m) (drop from us) in
      let then : recoded base w other u (m + k) (drop from us) ≡ a ++ b = recoded-add m k (drop from us) ∙ ap (λ l. a ++ recoded base w other u k l) (drop-drop (m * w) from us) in
      now
      ∙ ap₂ (λ i l. splice (to + i) b l) (sym a-long) (before ∙ ap (λ ws. splice to ws start) was)
      ∙ splice-over to a c b start (omega arith) (omega arith)
      ∙ ap (λ ws. splice to ws start) (sym then)

-- ---- a run, some fields at a time

-- So many fields of a run are left, from a place in the source and a place in the target on.
pub record Storing (base other : ℕ) (us start : List ℕ) (from to w u count at place left : ℕ) (s : List ℕ) : Type 0 where
  pub done : ℕ
  pub all : done + left ≡ count
  pub at-is : at ≡ from + done * w
  pub place_is : place ≡ to + done * u
  pub stored : s ≡ splice to (recoded base w other u done (drop from us)) start
  pub room : Room us from w u count to (length start)
  pub same_length : length s ≡ length start

module _ {base other : ℕ} {us start : List ℕ} {from to w u count : ℕ} where
  pub storing_begins : Room us from w u count to (length start) → Storing base other us start from to w u count from to count start
  storing_begins room =
      record {
        done = 0;
        all = Nat.zero-add count;
        at-is = omega arith;
        place_is = omega arith;
        stored = sym (splice_nil to start);
        room = room;
        same_length = refl;
      }

  module _ {at place left : ℕ} {s : List ℕ} (on : Storing base other us start from to w u count at place left s) where
    -- So many more are there, and there is room for them.
    pub next_inside : (k : ℕ) → k ≤ left → at + k * w ≤ length us
    next_inside k some =
        let more : (on.done + k) * w ≤ count * w = Nat.mul-le-mul_right w (omega (arith, on.all)) in
        omega (arith, more, on.at-is, on.room.inside)

    pub next_fits : (k : ℕ) → 0 < left → k ≤ left → place + k * u ≤ length s
    next_fits k one some =
        let more : (on.done + k) * u ≤ count * u = Nat.mul-le-mul_right u (omega (arith, on.all)) in
        omega (arith, more, on.place_is, on.same_length, on.room.fits (omega (arith, on.all)))

    pub one_inside : 0 < left → at + w ≤ length us
    one_inside one = rw (Nat.one-mul w) at (next_inside 1 one)

    pub one-fits : 0 < left → place + u ≤ length s
    one-fits one = rw (Nat.one-mul u) at (next_fits 1 one one)

    -- The next k are stored.
    pub storing_on : (k : ℕ) → 0 < left → k ≤ left → {t : List ℕ} → t ≡ splice place (recoded base w other u k (drop at us)) s
        → Storing base other us start from to w u count (at + k * w) (place + k * u) (left - k) t
    storing_on k one some {t} is =
        let long : length (recoded base w other u k (drop at us)) ≡ k * u = length-recoded base w other u k (drop at us) in
        let inside : place + length (recoded base w other u k (drop at us)) ≤ length s = rw long (next_fits k one some) in
        let more : (on.done + k) * u ≤ count * u = Nat.mul-le-mul_right u (omega (arith, on.all)) in
        let room : to + (on.done + k) * u ≤ length start = omega (arith, more, on.room.fits (omega (arith, on.all))) in
        record {
          done = on.done + k;
          all = omega (arith, on.all);
          at-is = omega (arith, on.at-is);
          place_is = omega (arith, on.place_is);
          stored =
              stored-over base w other u us start from to on.done k on.done room (omega arith) (omega arith) on.stored
              (is ∙ ap₂ (λ p a. splice p (recoded base w other u k (drop a us)) s) on.place_is on.at-is);
          room = on.room;
          same_length = ap length is ∙ length-splice place (recoded base w other u k (drop at us)) s inside ∙ on.same_length;
        }

    -- The next one is.
    pub storing_again : 0 < left → {t : List ℕ} → t ≡ splice place (digits other u (number base (take w (drop at us)))) s
        → Storing base other us start from to w u count (at + w) (place + u) (left - 1) t
    storing_again one {t} is =
        rw (Nat.one-mul w, Nat.one-mul u) at
        (storing_on 1 one one (is ∙ ap (λ ws. splice place ws s) (sym (append-nil (digits other u (number base (take w (drop at us))))))))

    -- The same places, counted otherwise.
    pub storing_from : {a p n : ℕ} → at ≡ a → place ≡ p → left ≡ n → Storing base other us start from to w u count a p n s
    storing_from e f g =
        record {
          done = on.done;
          all = omega (arith, on.all, g);
          at-is = omega (arith, on.at-is, e);
          place_is = omega (arith, on.place_is, f);
          stored = on.stored;
          room = on.room;
          same_length = on.same_length;
        }

    pub storing_ends : (0 < left → ⊥) → s ≡ splice to (recoded base w other u count (drop from us)) start
    storing_ends none =
        let all : on.done ≡ count = by left on.all none in
        on.stored ∙ ap (λ n. splice to (recoded base w other u n (drop from us)) start) all
      where
        by : (n : ℕ) → on.done + n ≡ count → (0 < n → ⊥) → on.done ≡ count
        by zero all none = omega arith
        by (suc n) all none = absurd (none (omega arith))

    -- The last k are stored, some of them again.
    pub storing_last : (m k : ℕ) → m + k ≡ count → 0 < k → left ≤ k → {a p : ℕ} → a ≡ from + m * w → p ≡ to + m * u → {t : List ℕ} → t ≡ splice p (recoded base w other u k (drop a us)) s
        → t ≡ splice to (recoded base w other u count (drop from us)) start
    storing_last m k sum one few at-is place_is {t} is =
        let room : to + (m + k) * u ≤ length start = rw sum (on.room.fits (omega arith)) in
        stored-over base w other u us start from to m k on.done room (omega (arith, on.all)) (omega (arith, on.all)) on.stored
        (is ∙ ap₂ (λ p a. splice p (recoded base w other u k (drop a us)) s) place_is at-is)
        ∙ ap (λ n. splice to (recoded base w other u n (drop from us)) start) sum

-- Of words that are chars, those that are left are.
module _ {base other : ℕ} {us start : List ℕ} {from to u count at place left : ℕ} {s : List ℕ} (on : Storing base other us start from to 1 u count at place left s) (small : (i : ℕ) → i < count → get_or us (from + i) 0 < 65536) where
  pub small-left : (i : ℕ) → i < left → get_or us (at + i) 0 < 65536
  small-left i less =
      let e : from + (on.done + i) ≡ at + i = omega (arith, on.at-is) in
      rw e at (small (on.done + i) (omega (arith, on.all)))

  pub small_next : 0 < left → get_or us at 0 < 65536
  small_next one = rw Nat.add-zero at (small-left 0 one)
