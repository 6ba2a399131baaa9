-- A session that holds bytes, run over them and some of a piece.
use Rattle.std.specs.Prelude.{◌≡◌, refl, ◌⊎◌, ℕ, ◌+◌, ◌-◌, ◌<◌, ◌≤◌, min, List, [], ◌∷◌, ◌++◌, length, take, drop}
use Rattle.std.proofs.Common.{sym, ap, ◌∙◌, subst, inl, inr, arith, append-nil, append_assoc, length-append, length-take, length-drop, take-append-drop, drop-drop, take_all}
use Rattle.std.proofs.Math.Seq.{drop-append-add}
use Rattle.std.proofs.lemmas.List.{drop-append-le}
use Rattle.pieces.specs.declared.Session.{Session}
use Rattle.pieces.specs.Going.{room}
use Rattle.pieces.specs.Held.{first_of}
use Rattle.pieces.specs.HeldLaws.{length-first, take-first}
use Rattle.pieces.specs.Session.{held_bytes}
use Rattle.session_run.specs.declared.advance.Fed.{Fed}
use Rattle.session.specs.declared.feed.Tried.{Tried}
use Rattle.session.specs.declared.feed.Turn.{Turn}
use Rattle.session.specs.declared.feed.Turn.TheVariants as T
use Rattle.session_run.specs.Advancing.{Advances}
use Rattle.session.specs.Changes.{with_held, stop}
use Rattle.session.specs.Feeding.{Able, Feeds, MayGoOn, able_on, feeds_stopped, feeds_held, feeds_on}

-- It goes on with what is left: less than there was, and what comes of that comes of it.
pub record On (s : Session) (piece : List ℕ) (t : Session) (from : ℕ) : Type 0 where
  pub there : from ≤ length piece
  pub able : Able t (t.held + (length piece - from))
  pub few-held : t.held < room
  pub less : t.held + (length piece - from) < s.held + length piece
  pub feeds : {q : Session} → Feeds t (held_bytes t ++ drop from piece) q → Feeds s (held_bytes s ++ piece) q

abbrev pub Turns : Session → List ℕ → Turn → Type 0
Turns s piece (T.Over q) = Feeds s (held_bytes s ++ piece) q
Turns s piece (T.On t from) = On s piece t from

-- ---- a session that holds nothing

module _ {s : Session} {src : List ℕ} {r : Fed} (able : Able s (length src)) (advances : Advances s src (s.bytes - length src) r) where
  able_alone : Able s (length src + 0)
  able_alone = let none_more : length src + 0 ≡ length src = omega arith in subst (Able s) (sym none_more) able

  based_alone : s.bytes - length src + (length src + 0) ≡ s.bytes
  based_alone = let words = able.few_words in omega arith

  pub came_alone : r.at ≤ length src
  came_alone = subst (λ n. n ≤ length src) (sym advances.at-is) advances.runs.came.there

  pub alone-stopped : (MayGoOn r.session → ⊥) ⊎ (184 ≤ length src - r.at) → {q : Session} → q ≡ stop r.session → Feeds s src q
  alone-stopped why {q} is = subst (Feeds s src) (sym is) (subst (λ l. Feeds s l (stop r.session)) (append-nil src) (feeds_stopped advances [] able_alone based_alone (as-list why)))
    where
      as-list : (MayGoOn r.session → ⊥) ⊎ (184 ≤ length src - r.at) → (MayGoOn r.session → ⊥) ⊎ (room ≤ length (drop r.at src))
      as-list (inl fault) = inl fault
      as-list (inr many) = let long = length-drop r.at src in inr (omega arith)

  pub alone-held : {left : ℕ} → left ≡ length src - r.at → left < 184 → {buffer : List ℕ} {q : Session} → first_of (0 + left) buffer ≡ [] ++ take left (drop r.at src) → q ≡ with_held r.session buffer left → Feeds s src q
  alone-held {left} left_is less {buffer} {q} holds is =
      let long = length-drop r.at src in
      let none_more : left ≡ 0 + left = omega arith in
      subst (Feeds s src) (sym is)
      (subst (λ l. Feeds s l (with_held r.session buffer left)) (append-nil src)
      (feeds_held advances [] able_alone based_alone refl (omega arith) less (ap (λ n. first_of n buffer) none_more ∙ holds ∙ take_all left (drop r.at src) (omega arith))))

-- ---- one that holds bytes

-- The bytes held and so many of a piece.
pub record Joined (s : Session) (piece : List ℕ) (more : ℕ) (src : List ℕ) : Type 0 where
  pub few : more ≤ length piece
  pub src-is : src ≡ held_bytes s ++ take more piece

module _ {s : Session} {piece src : List ℕ} {more : ℕ} (joined : Joined s piece more src) where
  pub joined-long : length src ≡ s.held + more
  joined-long =
      let few = joined.few in
      let a = length-take more piece in
      let b = length-append (held_bytes s) (take more piece) in
      let c : length (held_bytes s) ≡ s.held = length-first s.held s.buffer in
      let d = ap length joined.src-is in
      omega arith

  whole : src ++ drop more piece ≡ held_bytes s ++ piece
  whole =
      ap (λ l. l ++ drop more piece) joined.src-is
      ∙ append_assoc (held_bytes s) (take more piece) (drop more piece)
      ∙ ap (λ l. held_bytes s ++ l) (take-append-drop more piece)

  module _ {base : ℕ} {r : Fed} (advances : Advances s src base r) (able : Able s (s.held + length piece)) (based : base + (s.held + length piece) ≡ s.bytes) where
    abbrev later : List ℕ
    later = drop more piece

    sized : length src + length (drop more piece) ≡ s.held + length piece
    sized =
        let few = joined.few in
        let long = joined-long in
        let a = length-drop more piece in
        omega arith

    able_here : Able s (length src + length (drop more piece))
    able_here = subst (Able s) (sym sized) able

    based_here : base + (length src + length (drop more piece)) ≡ s.bytes
    based_here = ap (λ n. base + n) sized ∙ based

    came_there : r.at ≤ length src
    came_there = subst (λ n. n ≤ length src) (sym advances.at-is) advances.runs.came.there

    pub turned_stopped : (MayGoOn r.session → ⊥) ⊎ (room ≤ length (drop r.at src)) → Feeds s (held_bytes s ++ piece) (stop r.session)
    turned_stopped why = subst (λ l. Feeds s l (stop r.session)) whole (feeds_stopped advances (drop more piece) able_here based_here why)

    -- All of them are held.
    pub turned_held : {buffer : List ℕ} {all : ℕ} → r.at ≡ 0 → all ≡ s.held + more → more ≡ min (length piece) (184 - s.held) → all < 184 → first_of all buffer ≡ src → Feeds s (held_bytes s ++ piece) (with_held r.session buffer all)
    turned_held {buffer} {all} none_came all_is most fits held =
        let all-taken : more ≡ length piece = omega arith in
        let left = length-drop more piece in
        let none-later : drop more piece ≡ [] = empty (drop more piece) (omega arith) in
        let same : src ≡ drop r.at src = ap (λ n. drop n src) (sym none_came) in
        subst (λ l. Feeds s l (with_held r.session buffer all)) whole
        (feeds_held advances (drop more piece) able_here based_here none-later (all_is ∙ sym joined-long ∙ ap length same) (omega arith) (held ∙ same))
      where
        empty : (l : List ℕ) → length l ≡ 0 → l ≡ []
        empty [] e = refl
        empty (x ∷ l) e = absurd (omega arith)

    goes_on : {buffer : List ℕ} {held from : ℕ} → from ≤ length piece → held < room → held + (length piece - from) < s.held + length piece
        → length (drop r.at src) + length (drop more piece) ≡ held + (length piece - from) → first_of held buffer ++ drop from piece ≡ drop r.at src ++ drop more piece → On s piece (with_held r.session buffer held) from
    goes_on {buffer} {held} {from} there few less long left =
        let on = able_on advances (drop more piece) able_here based_here in
        let words = on.few_words in
        let rows = on.few-rows in
        record {
          there = there;
          able = record { sound = on.sound; short = on.short; few_words = omega arith; few-rows = omega arith };
          few-held = few;
          less = less;
          feeds = λ {q} f. subst (λ l. Feeds s l q) whole (feeds_on advances (drop more piece) able_here based_here left f);
        }

    -- What was held is behind: it goes on with the piece.
    pub turned_behind : {buffer : List ℕ} → s.held ≤ r.at → 0 < s.held → On s piece (with_held r.session buffer 0) (r.at - s.held)
    turned_behind {buffer} behind some-held =
        let few = joined.few in
        let long = joined-long in
        let came = came_there in
        let a = length-drop r.at src in
        let b = length-drop more piece in
        goes_on (omega arith) (omega arith) (omega arith) (omega arith) (sym left)
      where
        far : length (held_bytes s) + (r.at - s.held) ≡ r.at
        far = let c : length (held_bytes s) ≡ s.held = length-first s.held s.buffer in omega arith

        left : drop r.at src ++ drop more piece ≡ drop (r.at - s.held) piece
        left =
            let few = joined.few in
            let came = came_there in
            let long = joined-long in
            let a = length-take more piece in
            sym (drop-append-le r.at src (drop more piece) came)
            ∙ ap (drop r.at) whole
            ∙ ap (λ n. drop n (held_bytes s ++ piece)) (sym far)
            ∙ drop-append-add (held_bytes s) piece (r.at - s.held)

    -- Something was passed: what is left of both is held.
    pub turned_on : {buffer : List ℕ} {held from : ℕ} → 0 < r.at → s.held + more ≤ 184 → held ≡ s.held + more - r.at → from ≡ more → first_of held buffer ≡ drop r.at src → On s piece (with_held r.session buffer held) from
    turned_on {buffer} {held} {from} some-came fits held-is from_is holds =
        let few = joined.few in
        let long = joined-long in
        let came = came_there in
        let a = length-drop r.at src in
        let b = length-drop more piece in
        goes_on (omega arith) (omega arith) (omega arith) (omega arith) (ap (λ l. l ++ drop from piece) holds ∙ ap (λ n. drop r.at src ++ drop n piece) from_is)

-- ---- what was tried

-- The session was run over what it held and so much of the piece as there was room for.
pub record Tries (s : Session) (piece : List ℕ) (r : Tried) : Type 0 where
  pub more : ℕ
  pub all_is : r.all ≡ s.held + more
  pub most : more ≡ min (length piece) (184 - s.held)
  pub full : length r.buffer ≡ 184
  pub joined : Joined s piece more (first_of r.all r.buffer)
  pub base : ℕ
  pub based : base + (s.held + length piece) ≡ s.bytes
  pub ran : Advances s (first_of r.all r.buffer) base (record { session = r.session; at = r.at })

pub tries_made : (s : Session) (piece kept buffer : List ℕ) {more : ℕ} → Able s (s.held + length piece) → s.held < 184 → more ≡ min (length piece) (184 - s.held) → length buffer ≡ 184
    → first_of s.held kept ≡ held_bytes s → first_of (s.held + more) buffer ≡ first_of s.held kept ++ take more piece
    → {r : Fed} → Advances s (take (s.held + more) buffer) (s.bytes - length piece - s.held) r → Tries s piece (record { session = r.session; at = r.at; buffer = buffer; all = s.held + more })
tries_made s piece kept buffer {more} able few most full first behind {r} ran =
    let words = able.few_words in
    record {
      more = more;
      all_is = refl;
      most = most;
      full = full;
      joined = record { few = omega arith; src-is = behind ∙ ap (λ l. l ++ take more piece) first };
      base = s.bytes - length piece - s.held;
      based = omega arith;
      ran = subst (λ l. Advances s l (s.bytes - length piece - s.held) r) (take-first (s.held + more) buffer (omega arith)) ran;
    }

module _ {s : Session} {piece : List ℕ} {t : Tried} (tries : Tries s piece t) (able : Able s (s.held + length piece)) (some-held : 0 < s.held) (few : s.held < 184) where
  pub fits : t.all ≤ 184
  fits =
      let is = tries.all_is in
      let most = tries.most in
      omega arith

  pub turns_stopped : (MayGoOn t.session → ⊥) → {q : Session} → q ≡ stop t.session → Feeds s (held_bytes s ++ piece) q
  turns_stopped fault {q} is =
      subst (Feeds s (held_bytes s ++ piece)) (sym is) (turned_stopped tries.joined tries.ran able tries.based (inl fault))

  -- More than any part takes is there, and it is cut.
  pub turns_full : t.at ≡ 0 → 184 ≤ t.all → {q : Session} → q ≡ stop t.session → Feeds s (held_bytes s ++ piece) q
  turns_full none_came many {q} is =
      subst (Feeds s (held_bytes s ++ piece)) (sym is) (turned_stopped tries.joined tries.ran able tries.based (inr enough))
    where
      enough : room ≤ length (drop t.at (first_of t.all t.buffer))
      enough =
          let a = length-drop t.at (first_of t.all t.buffer) in
          let b = length-first t.all t.buffer in
          omega arith

  pub turns-held : t.at ≡ 0 → t.all < 184 → {q : Session} → q ≡ with_held t.session t.buffer t.all → Feeds s (held_bytes s ++ piece) q
  turns-held none_came less {q} is =
      subst (Feeds s (held_bytes s ++ piece)) (sym is)
      (turned_held tries.joined tries.ran able tries.based none_came tries.all_is tries.most less refl)

  pub turns-behind : s.held ≤ t.at → {q : Session} → q ≡ with_held t.session t.buffer 0 → On s piece q (t.at - s.held)
  turns-behind behind {q} is =
      subst (λ q. On s piece q (t.at - s.held)) (sym is) (turned_behind tries.joined tries.ran able tries.based behind some-held)

  pub came_within : t.at ≤ t.all
  came_within =
      let there = tries.ran.runs.came.there in
      let at-is = tries.ran.at-is in
      let long = length-first t.all t.buffer in
      omega arith

  pub turns-on : (t.at ≡ 0 → ⊥) → {buffer : List ℕ} {q : Session} → first_of (0 + (t.all - t.at)) buffer ≡ [] ++ take (t.all - t.at) (drop t.at (take t.all t.buffer)) → q ≡ with_held t.session buffer (t.all - t.at)
      → On s piece q (t.all - s.held)
  turns-on some-came {buffer} {q} holds is =
      let all_is = tries.all_is in
      let none_more : 0 + (t.all - t.at) ≡ t.all - t.at = omega arith in
      let full = tries.full in
      let a = length-drop t.at (first_of t.all t.buffer) in
      let b = length-first t.all t.buffer in
      let most = fits in
      let left : first_of (t.all - t.at) buffer ≡ drop t.at (first_of t.all t.buffer) =
      ap (λ n. first_of n buffer) (sym none_more)
      ∙ holds
      ∙ ap (λ l. take (t.all - t.at) (drop t.at l)) (take-first t.all t.buffer (omega arith))
      ∙ take_all (t.all - t.at) (drop t.at (first_of t.all t.buffer)) (omega arith) in
      subst (λ q. On s piece q (t.all - s.held)) (sym is)
      (turned_on tries.joined tries.ran able tries.based (omega arith) (omega arith) (omega arith) (omega arith) left)

-- ---- one turn after another

-- A session that was run over some of a piece: what comes of what is left of it comes of the whole.
pub record Along (s : Session) (piece : List ℕ) (t : Session) (from : ℕ) : Type 0 where
  pub there : from ≤ length piece
  pub able : Able t (t.held + (length piece - from))
  pub few-held : t.held < 184
  pub feeds : {q : Session} → Feeds t (held_bytes t ++ drop from piece) q → Feeds s (held_bytes s ++ piece) q

pub along_start : {s : Session} {piece : List ℕ} → Able s (s.held + length piece) → s.held < 184 → Along s piece s 0
along_start {s} {piece} able few =
    let none-gone : length piece ≡ length piece - 0 = omega arith in
    record { there = omega arith; able = subst (λ n. Able s (s.held + n)) none-gone able; few-held = few; feeds = λ f. f }

module _ {s t : Session} {piece : List ℕ} {from : ℕ} (along : Along s piece t from) where
  -- What is left of the piece, as a slice from a place on has it.
  left_is : take (length piece - from) (drop from piece) ≡ drop from piece
  left_is = let long = length-drop from piece in take_all (length piece - from) (drop from piece) (omega arith)

  left-long : length (drop from piece) ≡ length piece - from
  left-long = length-drop from piece

  pub able_turn : Able t (t.held + length (take (length piece - from) (drop from piece)))
  able_turn = subst (λ n. Able t (t.held + n)) (sym (ap length left_is ∙ left-long)) along.able

  pub able_last : t.held ≡ 0 → Able t (length (take (length piece - from) (drop from piece)))
  able_last none-held =
      let long = ap length left_is ∙ left-long in
      let same : t.held + (length piece - from) ≡ length (take (length piece - from) (drop from piece)) = omega arith in
      subst (Able t) same along.able

  pub along_ended : {q : Session} → Feeds t (held_bytes t ++ take (length piece - from) (drop from piece)) q → Feeds s (held_bytes s ++ piece) q
  along_ended {q} f = along.feeds (subst (λ l. Feeds t (held_bytes t ++ l) q) left_is f)

  module _ {next : Session} {came : ℕ} (turned : On t (take (length piece - from) (drop from piece)) next came) where
    on : On t (drop from piece) next came
    on = subst (λ l. On t l next came) left_is turned

    pub along_less : (from + came ≤ length piece) × (next.held + (length piece - (from + came)) < t.held + (length piece - from))
    along_less =
        let long = left-long in
        let there = on.there in
        let before = along.there in
        let less = on.less in
        (omega arith, omega arith)

    pub along_on : Along s piece next (from + came)
    along_on =
        let long = left-long in
        let there = on.there in
        let before = along.there in
        let same : length (drop from piece) - came ≡ length piece - (from + came) = omega arith in
        record {
          there = omega arith;
          able = subst (λ n. Able next (next.held + n)) same on.able;
          few-held = on.few-held;
          feeds = λ {q} f. along.feeds (on.feeds (subst (λ l. Feeds next (held_bytes next ++ l) q) (sym (drop-drop came from piece)) f));
        }

  pub along_last : t.held ≡ 0 → {q : Session} → Feeds t (take (length piece - from) (drop from piece)) q → Feeds s (held_bytes s ++ piece) q
  along_last none-held {q} f = along.feeds (subst (λ n. Feeds t (first_of n t.buffer ++ drop from piece) q) (sym none-held) (subst (λ l. Feeds t l q) left_is f))
