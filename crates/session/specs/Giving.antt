-- A piece given to a session: which sessions are run over it, and what they stand for then.
use Rattle.std.specs.Prelude.{◌≡◌, refl, ◌⊎◌, Bool, true, false, cond, ◌||◌, ℕ, suc, ◌+◌, ◌-◌, ◌<◌, ◌≤◌, List, ◌++◌, leb, ltb, length}
use Rattle.std.proofs.Common.{sym, ap, ◌∙◌, subst, inl, inr, true≢false, arith, append_assoc, length-append, ltb-true, ltb-false, leb-true, leb-false, ne_eqb}
use Rattle.std.proofs.lemmas.Bool.{false≢true}
use Rattle.format.specs.Digits.{Below}
use Rattle.format.specs.FixedCodecLaws.{below_append}
use Rattle.drawing.specs.declared.Answer.{Answer}
use Rattle.drawing.specs.Limits.{length_limit, depth_limit}
use Rattle.drawing.specs.Drawing.{file}
use Rattle.drawing.specs.Answers.{answer}
use Rattle.pieces.specs.declared.Session.{Session}
use Rattle.pieces.specs.Tally.{plus, tallied}
use Rattle.pieces.specs.Going.{room}
use Rattle.pieces.specs.Parts.{head_on, rest}
use Rattle.pieces.specs.Verdict.{verdict_of}
use Rattle.pieces.specs.Session.{standing, held_bytes, Going, Faulty, Within, Stands}
use Rattle.pieces.proofs.SessionLaws.{stands_fit, stands_counts}
use Rattle.pieces.specs.SessionPromises.{no_session, unfit, Pieces}
use Rattle.session.specs.Changes.{with_bytes}
use Rattle.session.specs.Feeding.{Able, Feeds, Tells}

-- No fault was found, and no number is too large for the bytes given.
pub record Runnable (s : Session) : Type 0 where
  pub staged : s.stage ≤ 6
  pub may-open : s.stage ≡ 5 → s.depth < depth_limit
  pub few-held : s.held < room
  pub few_words : s.words + s.held ≤ s.bytes
  pub few-rows : s.rows + s.held ≤ s.bytes

pub tells_shallow : (s : Session) → s.stage ≡ 5 → Tells (ltb s.depth depth_limit) (s.stage ≡ 5 → s.depth < depth_limit)
tells_shallow s counting =
    record {
      yes = λ e z. ltb-true s.depth depth_limit e;
      no = λ e may. let deep = ltb-false s.depth depth_limit e in let less = may counting in omega arith;
    }

pub tells_runnable : (s : Session) → s.stage ≤ 6 → (s.stage ≡ 5 → s.depth < depth_limit) → s.held < 184 → s.held ≤ s.bytes → s.words ≤ s.bytes - s.held → Tells (leb s.rows (s.bytes - s.held)) (Runnable s)
tells_runnable s staged may few there words =
    record {
      yes = λ e. let rows = leb-true s.rows (s.bytes - s.held) e in record { staged = staged; may-open = may; few-held = few; few_words = omega arith; few-rows = omega arith };
      no = λ e h. let more = leb-false s.rows (s.bytes - s.held) e in let rows = h.few-rows in omega arith;
    }

pub record Gives (s : Session) (piece : List ℕ) (r : Session) : Type 0 where
  pub same-spent : r.spent ≡ s.spent
  pub stands : Below 256 piece → (bs : List ℕ) → Stands bs s → Stands (bs ++ piece) r

-- A session that stands for bytes within the limit, if its count is.
within-short : {bs : List ℕ} {s : Session} → Stands bs s → s.bytes ≤ length_limit → length bs ≤ length_limit
within-short {bs} {s} h few = by (ltb length_limit (length bs)) refl
  where
    by : (t : Bool) → ltb length_limit (length bs) ≡ t → length bs ≤ length_limit
    by true e = let is = h.beyond (ltb-true length_limit (length bs) e) in absurd (omega arith)
    by false e = ltb-false length_limit (length bs) e

module _ (s : Session) (piece : List ℕ) where
  -- There were too many bytes already.
  pub gives_same : length_limit < s.bytes → Gives s piece s
  gives_same long = record { same-spent = refl; stands = λ below bs h. stands_on below bs h (ltb length_limit (length bs)) refl }
    where
      stands_on : Below 256 piece → (bs : List ℕ) → Stands bs s → (t : Bool) → ltb length_limit (length bs) ≡ t → Stands (bs ++ piece) s
      stands_on below bs h true e =
          let far = ltb-true length_limit (length bs) e in
          let sum = length-append bs piece in
          record { units = below_append 256 bs piece h.units below; shallow = h.shallow; within = λ short. absurd (omega arith); beyond = λ z. h.beyond far }
      stands_on below bs h false e =
          let counted = (h.within (ltb-false length_limit (length bs) e)).counted in
          let short = ltb-false length_limit (length bs) e in
          absurd (omega arith)

  module _ (few : s.bytes ≤ length_limit) where
    -- With these there are too many.
    pub gives_long : length_limit < s.bytes + length piece → Gives s piece (with_bytes s (suc length_limit))
    gives_long long =
        record {
          same-spent = refl;
          stands = λ below bs h.
              let counted = (h.within (within-short h few)).counted in
              let sum = length-append bs piece in
              record { units = below_append 256 bs piece h.units below; shallow = h.shallow; within = λ short. absurd (omega arith); beyond = λ z. refl };
        }

    -- A session that is not run has found a fault.
    pub gives_counted : s.bytes + length piece ≤ length_limit → (Runnable s → ⊥) → Gives s piece (with_bytes s (s.bytes + length piece))
    gives_counted all_fit not-run =
        record {
          same-spent = refl;
          stands = λ below bs h.
              let sum = length-append bs piece in
              let short = within-short h few in
              let w = h.within short in
              let counted = w.counted in
              record {
                units = below_append 256 bs piece h.units below;
                shallow = h.shallow;
                within = λ fits. faulty bs below h w fits w.one_of;
                beyond = λ long. absurd (omega arith);
              };
        }
      where
        going-runs : (bs : List ℕ) → s.bytes ≡ length bs → Going bs s → Runnable s
        going-runs bs counted g =
            let on = g.on in
            let words = g.few_words in
            let rows = g.few-rows in
            record { staged = omega arith; may-open = g.may-open; few-held = g.few-held; few_words = omega arith; few-rows = omega arith }

        faulty : (bs : List ℕ) → Below 256 piece → Stands bs s → Within bs s → length (bs ++ piece) ≤ length_limit → Going bs s ⊎ Faulty bs s → Within (bs ++ piece) (with_bytes s (s.bytes + length piece))
        faulty bs below h w fits (inl g) = absurd (not-run (going-runs bs w.counted g))
        faulty bs below h w fits (inr f) =
            let sum = length-append bs piece in
            let counted = w.counted in
            let Some-number = f.some.0 in
            record {
              counted = omega arith;
              now =
                  ap (λ t. cond t (answer 0 (s.bytes + length piece) s.rows (s.words - s.rows - 4)) (answer s.number s.offset 0 0)) (ne_eqb s.number 0 (λ z. omega arith))
                  ∙ sym (f.same piece below fits);
              one_of =
                  inr (record {
                    off = f.off;
                    some = f.some;
                    same = λ more small short.
                        ap verdict_of (append_assoc bs piece more)
                        ∙ f.same (piece ++ more) (below_append 256 piece more below small) (subst (λ l. length l ≤ length_limit) (append_assoc bs piece more) short);
                  });
            }

    module _ (runs : Runnable s) (deep : s.depth ≤ depth_limit) (fits : s.bytes + length piece ≤ length_limit) where
      able_given : Able (with_bytes s (s.bytes + length piece)) (s.held + length piece)
      able_given =
          let words = runs.few_words in
          let rows = runs.few-rows in
          record { sound = record { staged = runs.staged; shallow = deep; may-open = runs.may-open }; short = fits; few_words = omega arith; few-rows = omega arith }

      pub fed_needs : {t : Session} → t ≡ with_bytes s (s.bytes + length piece) → Able t (t.held + length piece) × (t.held < 184)
      fed_needs is = subst (λ t. Able t (t.held + length piece) × (t.held < 184)) (sym is) (able_given, runs.few-held)

      gives_fed : {r : Session} → Feeds (with_bytes s (s.bytes + length piece)) (held_bytes s ++ piece) r → Gives s piece r
      gives_fed {r} feeds =
          record {
            same-spent = feeds.same-spent;
            stands = λ below bs h.
                let sum = length-append bs piece in
                let short = within-short h few in
                let w = h.within short in
                let counted = w.counted in
                record {
                  units = below_append 256 bs piece h.units below;
                  shallow = feeds.shallow;
                  within = λ fits. by below bs h w w.one_of;
                  beyond = λ long. absurd (omega arith);
                };
          }
        where
          by : Below 256 piece → (bs : List ℕ) → Stands bs s → Within bs s → Going bs s ⊎ Faulty bs s → Within (bs ++ piece) r
          by below bs h w (inr f) =
              let off = f.off in
              let staged = runs.staged in
              absurd (omega arith)
          by below bs h w (inl g) =
              let sum = length-append bs piece in
              let counted = w.counted in
              feeds.within (bs ++ piece)
              (record {
                units = below_append 256 bs piece h.units below;
                counted = omega arith;
                same = λ more.
                    ap (tallied (head_on file)) (append_assoc bs piece more)
                    ∙ g.same (piece ++ more)
                    ∙ ap (λ l. plus s.words (tallied (rest (standing s)) l)) (sym (append_assoc (held_bytes s) piece more));
              })

      pub gives_run : {t r : Session} → t ≡ with_bytes s (s.bytes + length piece) → Feeds t (held_bytes t ++ piece) r → Gives s piece r
      gives_run {t} {r} is feeds = gives_fed (subst (λ t. Feeds t (held_bytes t ++ piece) r) is feeds)

-- ---- the call

pub fit_numbers : (s : Session) → unfit s ≡ false → (s.depth ≤ depth_limit) × (s.bytes ≤ suc length_limit)
fit_numbers s fit = by (ltb depth_limit s.depth) refl fit
  where
    by : (t : Bool) → ltb depth_limit s.depth ≡ t → t || ltb (suc length_limit) s.bytes ≡ false → (s.depth ≤ depth_limit) × (s.bytes ≤ suc length_limit)
    by true e h = absurd (true≢false h)
    by false e h = (ltb-false depth_limit s.depth e, ltb-false (suc length_limit) s.bytes h)

module _ {s : Session} {piece : List ℕ} {r : Answer} where
  pub pieces_unfit : unfit s ≡ true → {s' : Session} → s' ≡ s → r ≡ answer no_session 0 0 0 → Pieces s piece s' r
  pieces_unfit bad {s'} same is =
      record {
        says = is ∙ sym (ap (λ t. answer (cond t 22 0) 0 0 0) bad);
        unfit-same = λ e. same;
        spent-same = λ e. same;
        fresh = λ e. ap (λ (t : Session). t.spent) same ∙ e;
        stands = λ e bs h. absurd (false≢true (sym (stands_fit h) ∙ bad));
        counts = λ e bs h. absurd (false≢true (sym (stands_fit h) ∙ bad));
      }

  pub pieces_spent : unfit s ≡ false → (s.spent ≡ 0 → ⊥) → r ≡ answer 0 0 0 0 → Pieces s piece s r
  pieces_spent fit spent is =
      record {
        says = is ∙ sym (ap (λ t. answer (cond t 22 0) 0 0 0) fit);
        unfit-same = λ e. refl;
        spent-same = λ e. refl;
        fresh = λ e. e;
        stands = λ e. absurd (spent e);
        counts = λ e. absurd (spent e);
      }

  pub pieces_given : unfit s ≡ false → s.spent ≡ 0 → Below 256 piece → {s' : Session} → Gives s piece s' → r ≡ answer 0 0 0 0 → Pieces s piece s' r
  pieces_given fit fresh below {s'} gives is =
      record {
        says = is ∙ sym (ap (λ t. answer (cond t 22 0) 0 0 0) fit);
        unfit-same = λ e. absurd (false≢true (sym fit ∙ e));
        spent-same = λ e. absurd (e fresh);
        fresh = λ e. gives.same-spent ∙ e;
        stands = λ e bs h. gives.stands below bs h;
        counts = λ e bs h. stands_counts (gives.stands below bs h);
      }
