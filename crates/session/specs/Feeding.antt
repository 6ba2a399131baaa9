-- A session in the middle of a piece: the bytes it stands for, those of them that are still ahead of it, and what comes of running on.
use Rattle.std.specs.Prelude.{◌≡◌, refl, ◌⊎◌, Bool, true, false, cond, not, ℕ, ◌+◌, ◌-◌, ◌<◌, ◌≤◌, List, [], ◌∷◌, ◌++◌, eqb, ltb, length, drop}
use Rattle.std.proofs.Common.{sym, ap, ◌∙◌, subst, inl, inr, true≢false, arith, append-nil, append_assoc, length-append, length-drop, lt-ltb, ltb-true, ltb-false, eqb-true, eq-eqb, ne_eqb}
use Rattle.std.proofs.lemmas.Bool.{false≢true}
use Rattle.format.specs.Digits.{Below}
use Rattle.format.specs.Codec.{Outcome, found}
use Rattle.format.specs.Codec as C
use Rattle.format.specs.Script.{Script, end}
use Rattle.format.specs.FixedCodecLaws.{below_append}
use Rattle.drawing.specs.Limits.{length_limit, depth_limit}
use Rattle.drawing.specs.Drawing.{file}
use Rattle.drawing.specs.Answers.{answer}
use Rattle.pieces.specs.declared.Session.{Session}
use Rattle.pieces.specs.Tally.{plus, tallied}
use Rattle.pieces.specs.TallyLaws.{plus-plus}
use Rattle.pieces.specs.Going.{room, Stops}
use Rattle.pieces.specs.Held.{first_of}
use Rattle.pieces.specs.Parts.{groups, head_on, rest_at, rest}
use Rattle.pieces.specs.EntryLaws.{none_inside, rest-around, rest_agree}
use Rattle.pieces.specs.Verdict.{verdict_of, comes}
use Rattle.pieces.specs.VerdictLaws.{verdict-tallied, refused-verdict}
use Rattle.pieces.specs.Session.{standing, verdict_now, Within}
use Rattle.session.specs.Changes.{with_held, stop}
use Rattle.session_run.specs.declared.place.Place.{Place}
use Rattle.session_run.specs.declared.run.Ran.{Ran}
use Rattle.session_run.specs.declared.advance.Fed.{Fed}
use Rattle.session_run.specs.Objects.{standing_of, Sound, Over}
use Rattle.session_run.specs.Advancing.{place_of, after_run, Tame, Advances}

-- ---- what is promised

-- It can be run over so many bytes, the last of those given.
pub record Able (s : Session) (ahead : ℕ) : Type 0 where
  pub sound : Sound (place_of s)
  pub short : s.bytes ≤ length_limit
  pub few_words : s.words + ahead ≤ s.bytes
  pub few-rows : s.rows + ahead ≤ s.bytes

-- It has been run over these bytes but for the last ones, which are ahead.
pub record Behind (bs : List ℕ) (s : Session) (ahead : List ℕ) : Type 0 where
  pub units : Below 256 bs
  pub counted : s.bytes ≡ length bs
  pub same : (more : List ℕ) → tallied (head_on file) (bs ++ more) ≡ plus s.words (tallied (rest (standing s)) (ahead ++ more))

-- What comes of a session that has these bytes ahead, once it was run over them.
pub record Feeds (s : Session) (ahead : List ℕ) (r : Session) : Type 0 where
  pub same-spent : r.spent ≡ s.spent
  pub shallow : r.depth ≤ depth_limit
  pub within : (bs : List ℕ) → Behind bs s ahead → Within bs r

-- The file may go on here.
abbrev pub MayGoOn : Session → Type 0
MayGoOn s = (s.number ≡ 0) ⊎ (s.number ≡ 2)

-- What a test says of this.
pub record Tells (r : Bool) (P : Type 0) : Type 0 where
  pub yes : r ≡ true → P
  pub no : r ≡ false → P → ⊥

pub tells_yes : {P : Type 0} → P → Tells true P
tells_yes p = record { yes = λ e. p; no = λ e. absurd (true≢false e) }

pub tells_no : {P : Type 0} → (P → ⊥) → Tells false P
tells_no not_so = record { yes = λ e. absurd (false≢true e); no = λ e. not_so }

-- The same of its opposite.
pub untold : (r : Bool) {P : Type 0} → Tells r P → not r ≡ true → P → ⊥
untold true t e = absurd (false≢true e)
untold false t e = t.no refl

pub told_so : (r : Bool) {P : Type 0} → Tells r P → not r ≡ false → P
told_so true t e = t.yes refl
told_so false t e = absurd (true≢false e)

pub tells_going : (s : Session) → (s.number ≡ 0 → ⊥) → Tells (eqb s.number 2) (MayGoOn s)
tells_going s Some-number = record { yes = λ e. inr (eqb-true s.number 2 e); no = λ e. other e }
  where
    other : eqb s.number 2 ≡ false → MayGoOn s → ⊥
    other e (inl none_yet) = Some-number none_yet
    other e (inr cut-here) = true≢false (sym (eq-eqb s.number 2 cut-here) ∙ e)

pub able_tame : {s : Session} {ahead : ℕ} → Able s ahead → Tame s
able_tame able =
    let short = able.short in
    let words = able.few_words in
    let rows = able.few-rows in
    record { sound = able.sound; few-rows = omega arith; few_words = omega arith }

-- ---- a run, in a session

-- Behind the outer group nothing is left.
rest_over : (p : Place) (ms : List ℕ) → Over p → rest (standing_of p ms) ≡ end p.rows
unfolding groups
rest_over p ms over =
    ap (λ n. rest_at n (standing_of p ms)) over.objects-now
    ∙ rest-around (standing_of p ms) (none_inside p.version p.inside over.between.no_run over.between.digit over.between.small)
    ∙ ap (λ n. groups p.version ms n p.rows) over.none_open

comes_trailing : (total : ℕ) (t : ℕ × ℕ) (l : List ℕ) → 0 < length l → comes total (found t l) ≡ answer 13 (total - length l) 0 0
comes_trailing total t [] some_left = absurd (omega arith)
comes_trailing total t (b ∷ l) some_left = refl

module _ {s : Session} {src : List ℕ} {base : ℕ} {r : Fed} (advances : Advances s src base r) (later : List ℕ) (able : Able s (length src + length later)) (based : base + (length src + length later) ≡ s.bytes) where
  ran : Ran
  ran = advances.ran

  abbrev after : Session
  after = after_run s advances.ran advances.members base

  abbrev left_now : Script ℕ
  left_now = rest (standing_of advances.ran.place advances.members)

  -- What is left is the same with the members copied.
  same_left : rest (standing s) ≡ rest (standing_of (place_of s) advances.before)
  same_left =
      let few = able.sound.shallow in
      rest_agree (standing s) advances.before able.sound.staged (λ i less. sym (advances.copied.same i (omega arith)))

  on : {bs : List ℕ} → Behind bs s (src ++ later) → (more : List ℕ) → tallied (head_on file) (bs ++ more) ≡ plus advances.ran.to (tallied left_now (drop advances.ran.at src ++ (later ++ more)))
  on behind more =
      let w = advances.runs.came.few_words.0 in
      let t = advances.ran.to in
      let sum : s.words + (t - s.words) ≡ t = omega arith in
      behind.same more
      ∙ ap (λ l. plus s.words (tallied (rest (standing s)) l)) (append_assoc src later more)
      ∙ ap (λ S. plus s.words (tallied S (src ++ (later ++ more)))) same_left
      ∙ ap (plus s.words) (advances.runs.came.goes.same (later ++ more))
      ∙ plus-plus s.words (t - s.words) (tallied left_now (drop advances.ran.at src ++ (later ++ more)))
      ∙ ap (λ n. plus n (tallied left_now (drop advances.ran.at src ++ (later ++ more)))) sum

  -- The session behind the run stands behind what it came over.
  pub behind-on : {bs : List ℕ} → Behind bs s (src ++ later) → Behind bs r.session (drop r.at src ++ later)
  behind-on {bs} behind =
      subst (λ u. Behind bs u (drop r.at src ++ later)) (sym advances.session-is)
      (subst (λ n. Behind bs after (drop n src ++ later)) (sym advances.at-is)
      (record {
        units = behind.units;
        counted = behind.counted;
        same = λ more. on behind more ∙ ap (λ l. plus advances.ran.to (tallied left_now l)) (sym (append_assoc (drop advances.ran.at src) later more));
      }))

  pub able_on : Able r.session (length (drop r.at src) + length later)
  able_on =
      subst (λ u. Able u (length (drop r.at src) + length later)) (sym advances.session-is)
      (subst (λ n. Able after (length (drop n src) + length later)) (sym advances.at-is)
      (let long = length-drop advances.ran.at src in
      let there = advances.runs.came.there in
      let more-words = advances.runs.came.few_words.1 in
      let more_rows = advances.runs.came.few-rows in
      let words = able.few_words in
      let rows = able.few-rows in
      record { sound = advances.runs.came.sound; short = able.short; few_words = omega arith; few-rows = omega arith }))

  -- ---- a fault

  -- The number in the session is that of the run, where it is one of the reader's.
  number_is : advances.ran.number < 14 → cond (ltb advances.ran.number 14) advances.ran.number 2 ≡ advances.ran.number
  number_is small = ap (λ t. cond t advances.ran.number 2) (lt-ltb advances.ran.number 14 small)

  -- Bytes at which what is left is refused, where the run stopped.
  refused-at : {bs : List ℕ} (more : List ℕ) → Behind bs s (src ++ later) → Below 256 (bs ++ more) → length (bs ++ more) ≤ length_limit
      → tallied left_now (drop advances.ran.at src ++ (later ++ more)) ≡ C.refused advances.ran.number (drop advances.ran.stop src ++ (later ++ more))
      → (verdict_of (bs ++ more) ≡ answer advances.ran.number (base + advances.ran.stop) 0 0) × (0 < advances.ran.number) × (advances.ran.number < 14)
  refused-at {bs} more behind below short is =
      let n = advances.ran.number in
      let place = drop advances.ran.stop src ++ (later ++ more) in
      let so = refused-verdict (bs ++ more) below short n place (on behind more ∙ ap (plus advances.ran.to) is) in
      let inside = advances.runs.inside in
      let a = length-drop advances.ran.stop src in
      let b = length-append (drop advances.ran.stop src) (later ++ more) in
      let c = length-append later more in
      let d = length-append bs more in
      let e = behind.counted in
      let far : length (bs ++ more) - length place ≡ base + advances.ran.stop = omega arith in
      (so.0 ∙ ap (λ o. answer n o 0 0) far, so.1, so.2)

  -- Bytes behind the outer group.
  trailing_at : {bs : List ℕ} (more : List ℕ) → Behind bs s (src ++ later) → Below 256 (bs ++ more) → length (bs ++ more) ≤ length_limit
      → Over advances.ran.place → advances.ran.at < length src → verdict_of (bs ++ more) ≡ answer 13 (base + advances.ran.at) 0 0
  trailing_at {bs} more behind below short over less =
      let place = drop advances.ran.at src ++ (later ++ more) in
      let a = length-drop advances.ran.at src in
      let b = length-append (drop advances.ran.at src) (later ++ more) in
      let c = length-append later more in
      let d = length-append bs more in
      let e = behind.counted in
      let some_left : 0 < length place = omega arith in
      let far : length (bs ++ more) - length place ≡ base + advances.ran.at = omega arith in
      verdict-tallied (bs ++ more) below short
      ∙ ap (comes (length (bs ++ more))) (on behind more ∙ ap (λ S. plus advances.ran.to (tallied S place)) (rest_over advances.ran.place advances.members over))
      ∙ comes_trailing (length (bs ++ more)) (advances.ran.place.rows, advances.ran.to + 0) place some_left
      ∙ ap (λ o. answer 13 o 0 0) far

  -- What the session says, whatever comes behind.
  abbrev Told : List ℕ → Type 0
  Told bs = (verdict_of bs ≡ answer after.number after.offset 0 0) × (0 < after.number) × (after.number < 14)

  told : (bs : List ℕ) {n offset : ℕ} → advances.ran.number ≡ n → base + advances.ran.stop ≡ offset → (verdict_of bs ≡ answer n offset 0 0) × (0 < n) × (n < 14) → Told bs
  told bs {n} {offset} is place so =
      let small = so.2 in
      let same : after.number ≡ n = number_is (omega arith) ∙ is in
      let Some-number = so.1 in
      (so.0 ∙ sym (ap (λ m. answer m (base + advances.ran.stop) 0 0) same ∙ ap (λ o. answer n o 0 0) place), omega arith, omega arith)

  -- There is a fault, or more bytes are left than any part takes: so it stays.
  for_good : {bs : List ℕ} → Behind bs s (src ++ later) → (MayGoOn after → ⊥) ⊎ (room ≤ length (drop advances.ran.at src)) → (more : List ℕ) → Below 256 (bs ++ more) → length (bs ++ more) ≤ length_limit → Told (bs ++ more)
  for_good {bs} behind why more below short = by advances.runs.ended why
    where
      two : advances.ran.number ≡ 2 → after.number ≡ 2
      two e = ap (λ n. cond (ltb n 14) n 2) e

      halts : (n : ℕ) → n ≡ 2 → length (drop advances.ran.at src) < room → advances.ran.number ≡ n → (MayGoOn after → ⊥) ⊎ (room ≤ length (drop advances.ran.at src)) → ⊥
      halts n is few same (inl fault) = fault (inr (two (same ∙ is)))
      halts n is few same (inr many) = omega arith

      ends : (t : Bool) → ltb advances.ran.at (length src) ≡ t → Over advances.ran.place → advances.ran.stop ≡ advances.ran.at → advances.ran.number ≡ cond t 13 0
          → (MayGoOn after → ⊥) ⊎ (room ≤ length (drop advances.ran.at src)) → Told (bs ++ more)
      ends true e over there is why =
          told (bs ++ more) is (ap (λ n. base + n) there) (trailing_at more behind below short over (ltb-true advances.ran.at (length src) e), omega arith, omega arith)
      ends false e over there is (inl fault) = absurd (fault (inl (ap (λ n. cond (ltb n 14) n 2) is)))
      ends false e over there is (inr many) =
          let far = ltb-false advances.ran.at (length src) e in
          let long = length-drop advances.ran.at src in
          absurd (omega arith)

      by : Stops left_now (drop advances.ran.at src) advances.ran.number (drop advances.ran.stop src)
          ⊎ (Over advances.ran.place × (advances.ran.stop ≡ advances.ran.at) × (advances.ran.number ≡ cond (ltb advances.ran.at (length src)) 13 0))
          → (MayGoOn after → ⊥) ⊎ (room ≤ length (drop advances.ran.at src)) → Told (bs ++ more)
      by (inr h) why = ends (ltb advances.ran.at (length src)) refl h.0 h.1 h.2 why
      by (inl stops) why = halted stops.then
        where
          halted : ((more : List ℕ) → tallied left_now (drop advances.ran.at src ++ more) ≡ C.refused advances.ran.number (drop advances.ran.stop src ++ more))
              ⊎ ((advances.ran.number ≡ 2) × (length (drop advances.ran.at src) < room)) → Told (bs ++ more)
          halted (inl stays) = told (bs ++ more) refl refl (refused-at more behind below short (stays (later ++ more)))
          halted (inr h) = absurd (halts advances.ran.number h.0 h.1 refl why)

  -- ---- the verdict, where nothing else is to come

  abbrev Now : List ℕ → Type 0
  Now bs = (verdict_now after ≡ verdict_of bs) × (after.number < 14)

  -- A fault, or a part that is cut.
  now_told : (bs : List ℕ) → Told bs → Now bs
  now_told bs so =
      let Some-number = so.1 in
      (ap (λ t. cond t (answer 0 after.bytes after.rows (after.words - after.rows - 4)) (answer after.number after.offset 0 0)) (ne_eqb after.number 0 (λ z. omega arith)) ∙ sym so.0, so.2)

  now_is : {bs : List ℕ} → later ≡ [] → Behind bs s (src ++ later) → Now bs
  now_is {bs} none-later behind = by advances.runs.ended
    where
      below : Below 256 (bs ++ [])
      below = subst (Below 256) (sym (append-nil bs)) behind.units

      short : length (bs ++ []) ≤ length_limit
      short =
          let few = able.short in
          let counted = behind.counted in
          subst (λ l. length l ≤ length_limit) (sym (append-nil bs)) (omega arith)

      whole : Told (bs ++ []) → Now bs
      whole so = now_told bs (subst Told (append-nil bs) so)

      nothing : (l : List ℕ) → l ≡ l ++ (later ++ [])
      nothing l = sym (append-nil l) ∙ ap (λ k. l ++ k) (sym (ap (λ k. k ++ []) none-later))

      ends : (t : Bool) → ltb advances.ran.at (length src) ≡ t → Over advances.ran.place → advances.ran.stop ≡ advances.ran.at → advances.ran.number ≡ cond t 13 0 → Now bs
      ends true e over there is =
          whole (told (bs ++ []) is (ap (λ n. base + n) there) (trailing_at [] behind below short over (ltb-true advances.ran.at (length src) e), omega arith, omega arith))
      ends false e over there is =
          let number-zero : after.number ≡ 0 = ap (λ n. cond (ltb n 14) n 2) is in
          let far = ltb-false advances.ran.at (length src) e in
          let long = length-drop advances.ran.at src in
          let empty : drop advances.ran.at src ≡ [] = none_left (drop advances.ran.at src) (omega arith) in
          let came : tallied (head_on file) bs ≡ found (advances.ran.place.rows, advances.ran.to + 0) [] =
          ap (tallied (head_on file)) (sym (append-nil bs))
          ∙ on behind []
          ∙ ap (λ S. plus advances.ran.to (tallied S (drop advances.ran.at src ++ (later ++ [])))) (rest_over advances.ran.place advances.members over)
          ∙ ap (λ l. found (advances.ran.place.rows, advances.ran.to + 0) l) (sym (nothing (drop advances.ran.at src)) ∙ empty) in
          let few = able.short in
          let counted = behind.counted in
          let sum : advances.ran.to + 0 ≡ advances.ran.to = omega arith in (
            ap (λ n. cond (eqb n 0) (answer 0 after.bytes after.rows (after.words - after.rows - 4)) (answer n after.offset 0 0)) number-zero
                ∙ ap (λ n. answer 0 n after.rows (after.words - after.rows - 4)) counted
                ∙ ap (λ n. answer 0 (length bs) after.rows (n - after.rows - 4)) (sym sum)
                ∙ sym (verdict-tallied bs behind.units (omega arith) ∙ ap (comes (length bs)) came),
            omega arith,
          )
        where
          none_left : (l : List ℕ) → length l ≡ 0 → l ≡ []
          none_left [] e = refl
          none_left (x ∷ l) e = absurd (omega arith)

      by : Stops left_now (drop advances.ran.at src) advances.ran.number (drop advances.ran.stop src)
          ⊎ (Over advances.ran.place × (advances.ran.stop ≡ advances.ran.at) × (advances.ran.number ≡ cond (ltb advances.ran.at (length src)) 13 0))
          → Now bs
      by (inr h) = ends (ltb advances.ran.at (length src)) refl h.0 h.1 h.2
      by (inl stops) =
          whole (told (bs ++ []) refl refl (refused-at [] behind below short
          (ap (tallied left_now) (sym (nothing (drop advances.ran.at src))) ∙ stops.now ∙ ap (C.refused advances.ran.number) (nothing (drop advances.ran.stop src)))))

  -- ---- what comes of it

  -- It has stopped for good.
  stops_within : {bs : List ℕ} → Behind bs s (src ++ later) → (MayGoOn after → ⊥) ⊎ (room ≤ length (drop advances.ran.at src)) → Within bs (stop after)
  stops_within {bs} behind why =
      let few = able.short in
      let counted = behind.counted in
      let so : Told bs = subst Told (append-nil bs) (for_good behind why [] (subst (Below 256) (sym (append-nil bs)) behind.units) (subst (λ l. length l ≤ length_limit) (sym (append-nil bs)) (omega arith))) in
      record {
        counted = behind.counted;
        now = (now_told bs so).0;
        one_of = inr (record { off = refl; some = (so.1, so.2); same = λ more below short. (for_good behind why more (below_append 256 bs more behind.units below) short).0 });
      }

  -- What is left is held.
  holds_within : {bs : List ℕ} → later ≡ [] → Behind bs s (src ++ later) → {buffer : List ℕ} → length (drop advances.ran.at src) < room → first_of (length (drop advances.ran.at src)) buffer ≡ drop advances.ran.at src
      → Within bs (with_held after buffer (length (drop advances.ran.at src)))
  holds_within {bs} none-later behind {buffer} few held =
      let so = now_is none-later behind in
      let sound = advances.runs.came.sound in
      let staged = sound.staged in
      let long = length-drop advances.ran.at src in
      let there = advances.runs.came.there in
      let more-words = advances.runs.came.few_words.1 in
      let more_rows = advances.runs.came.few-rows in
      let words = able.few_words in
      let rows = able.few-rows in
      let counted = behind.counted in
      record {
        counted = behind.counted;
        now = so.0;
        one_of =
            inl (record {
              on = omega arith;
              may-open = sound.may-open;
              few-held = few;
              few_words = omega arith;
              few-rows = omega arith;
              number-now = so.1;
              same = λ more.
                  on behind more
                  ∙ ap (λ l. plus advances.ran.to (tallied left_now (drop advances.ran.at src ++ (l ++ more)))) none-later
                  ∙ ap (λ l. plus advances.ran.to (tallied left_now (l ++ more))) (sym held);
            });
      }

  shallow : after.depth ≤ depth_limit
  shallow = advances.runs.came.sound.shallow

  pub feeds_stopped : (MayGoOn r.session → ⊥) ⊎ (room ≤ length (drop r.at src)) → Feeds s (src ++ later) (stop r.session)
  feeds_stopped why =
      subst (λ u. Feeds s (src ++ later) (stop u)) (sym advances.session-is)
      (record { same-spent = refl; shallow = shallow; within = λ bs behind. stops_within behind (as-run why) })
    where
      as-run : (MayGoOn r.session → ⊥) ⊎ (room ≤ length (drop r.at src)) → (MayGoOn after → ⊥) ⊎ (room ≤ length (drop advances.ran.at src))
      as-run (inl fault) = inl (λ h. fault (subst MayGoOn (sym advances.session-is) h))
      as-run (inr many) = inr (subst (λ n. room ≤ length (drop n src)) advances.at-is many)

  pub feeds_held : later ≡ [] → {buffer : List ℕ} {held : ℕ} → held ≡ length (drop r.at src) → held < room → first_of held buffer ≡ drop r.at src → Feeds s (src ++ later) (with_held r.session buffer held)
  feeds_held none-later {buffer} {held} is few first =
      subst (λ u. Feeds s (src ++ later) (with_held u buffer held)) (sym advances.session-is)
      (subst (λ n. Feeds s (src ++ later) (with_held after buffer n)) (sym same)
      (record { same-spent = refl; shallow = shallow; within = λ bs behind. holds_within none-later behind (subst (λ n. n < room) same few) (ap (λ n. first_of n buffer) (sym same) ∙ first ∙ ap (λ n. drop n src) advances.at-is) }))
    where
      same : held ≡ length (drop advances.ran.at src)
      same = is ∙ ap (λ n. length (drop n src)) advances.at-is

  -- It goes on with what is left, of which some is held.
  pub feeds_on : {buffer ahead : List ℕ} {held : ℕ} → ahead ≡ drop r.at src ++ later → {q : Session} → Feeds (with_held r.session buffer held) ahead q → Feeds s (src ++ later) q
  feeds_on {buffer} {ahead} {held} left {q} feeds =
      record {
        same-spent = feeds.same-spent ∙ ap (λ (u : Session). u.spent) advances.session-is;
        shallow = feeds.shallow;
        within = λ bs behind.
            let b = behind-on behind in
            feeds.within bs (record { units = b.units; counted = b.counted; same = λ more. b.same more ∙ ap (λ l. plus r.session.words (tallied (rest (standing r.session)) (l ++ more))) (sym left) });
      }
