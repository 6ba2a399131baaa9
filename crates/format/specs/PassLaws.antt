-- What a pass over a layout's fields comes to, whatever comes behind them: where the layout parses, the places behind the value and its fields put
-- into memory; where it does not, the refusal.
use Rattle.std.specs.Prelude.{◌≡◌, refl, Bool, true, false, cond, ℕ, ◌+◌, ◌-◌, ◌<◌, ◌≤◌, List, [], ◌∷◌, ◌++◌, leb, length, drop}
use Rattle.std.proofs.Common.{sym, ap, ap₂, ◌∙◌, subst, arith, length-append, length-drop, drop-drop, drop_at, le-leb, leb-true}
use Rattle.std.proofs.Math.Option.{Option, none, some}
use Rattle.std.proofs.Math.Nat as Nat
use Rattle.std.proofs.lemmas.Bool.{lt-leb}
use Rattle.format.specs.Digits.{Below}
use Rattle.format.specs.DigitsLaws.{length_digits}
use Rattle.format.specs.Kind.{Kind, Field, Allowed}
use Rattle.format.specs.Codec.{Outcome, found, refused, and_then, Explained}
use Rattle.format.specs.Spelling.{spell_all}
use Rattle.format.specs.FixedCodec.{Fixed, spell_fixed}
use Rattle.format.specs.FixedReading.{fixed, split_at, Verdict, value, fault, conclude, judge, read_cut}
use Rattle.format.specs.FixedCodecLaws.{Sensible, SplitSays, split_at-says, fixed_lawful}
use Rattle.format.specs.Script.{Script, end, ask}
use Rattle.format.specs.Parse.{parse}
use Rattle.format.specs.ScriptRun.{run, Ends}
use Rattle.format.specs.Format.{fields, script}
use Rattle.format.specs.Layout.{Layout, encode}
use Rattle.format.specs.LeafLaws.{below_drop}
use Rattle.format.specs.ParsingLaws.{followed, followed-script, ended}
use Rattle.format.specs.Pass.{Route, splice, put, Passed, onward, pass, ◌⟫◌}
use Rattle.format.specs.SpliceLaws.{splice_nil, length-splice, splice-behind}

-- ---- memory

pub length-put : (to : ℕ) (ws m : List ℕ) → length (put to ws m) ≡ length m
length-put to ws m = by (leb (to + length ws) (length m)) refl
  where
    by : (t : Bool) → leb (to + length ws) (length m) ≡ t → length (cond t (splice to ws m) m) ≡ length m
    by true e = length-splice to ws m (leb-true (to + length ws) (length m) e)
    by false e = refl

pub put-fits : (to : ℕ) (ws m : List ℕ) → to + length ws ≤ length m → put to ws m ≡ splice to ws m
put-fits to ws m h = ap (λ t. cond t (splice to ws m) m) (le-leb (to + length ws) (length m) h)

pub put-short : (to : ℕ) (ws m : List ℕ) → length m < to + length ws → put to ws m ≡ m
put-short to ws m h = ap (λ t. cond t (splice to ws m) m) (lt-leb (to + length ws) (length m) h)

-- Fields put into memory one behind the other, each where it fits.
abbrev pub puts : Fixed → ℕ → List Field → List ℕ → List ℕ
puts G to [] m = m
puts G to (f ∷ fs) m = puts G (to + G.width f.kind.shape) fs (put to (spell_fixed G f.kind f.value) m)

module _ (G : Fixed) where
  spelled-width : (f : Field) → length (spell_fixed G f.kind f.value) ≡ G.width f.kind.shape
  spelled-width f = length_digits G.base (G.width f.kind.shape) f.value

  pub length-puts : (fs : List Field) (to : ℕ) (m : List ℕ) → length (puts G to fs m) ≡ length m
  length-puts [] to m = refl
  length-puts (f ∷ fs) to m =
      length-puts fs (to + G.width f.kind.shape) (put to (spell_fixed G f.kind f.value) m)
      ∙ length-put to (spell_fixed G f.kind f.value) m

  -- Where all of them fit, they stand there one behind the other.
  pub puts_fit : (fs : List Field) (to : ℕ) (m : List ℕ) → to + length (spell_all (spell_fixed G) fs) ≤ length m → puts G to fs m ≡ splice to (spell_all (spell_fixed G) fs) m
  puts_fit [] to m h = sym (splice_nil to m)
  puts_fit (f ∷ fs) to m h =
      let ws = spell_fixed G f.kind f.value in
      let more = spell_all (spell_fixed G) fs in
      let sum : length (ws ++ more) ≡ length ws + length more = length-append ws more in
      let w = spelled-width f in
      let first : to + length ws ≤ length m = omega arith in
      let kept = length-put to ws m in
      let rest : to + G.width f.kind.shape + length more ≤ length (put to ws m) = omega arith in
      puts_fit fs (to + G.width f.kind.shape) (put to ws m) rest
      ∙ ap (λ n. splice (to + n) more (put to ws m)) (sym w)
      ∙ ap (splice (to + length ws) more) (put-fits to ws m first)
      ∙ splice-behind to ws more m h

-- ---- one field

-- What a reading says of places.
abbrev pub Placed : Fixed → Kind → List ℕ → Outcome ℕ → Type 0
Placed F k us (found v rest) = (F.width k.shape ≤ length us) × (rest ≡ drop (F.width k.shape) us)
Placed F k us (refused n place) = place ≡ us

pub read_placed : (F : Fixed) (k : Kind) (us : List ℕ) → Placed F k us ((fixed F).read k us)
read_placed F k us = cut (split_at (F.width k.shape) us) (split_at-says (F.width k.shape) us)
  where
    concluded : (v : Verdict) (rest : List ℕ) → F.width k.shape ≤ length us → rest ≡ drop (F.width k.shape) us → Placed F k us (conclude v us rest)
    concluded (value v) rest there is = (there, is)
    concluded (fault n) rest there is = refl

    cut : (o : Option (List ℕ × List ℕ)) → SplitSays (F.width k.shape) us o → Placed F k us (read_cut F k us o)
    cut none says = refl
    cut (some (front, back)) says =
        let sum : length us ≡ length front + length back = ap length says.0 ∙ length-append front back in
        let long : length front ≡ F.width k.shape = says.1 in
        let there : F.width k.shape ≤ length us = omega arith in
        concluded (judge F k front) back there (sym (ap (drop (F.width k.shape)) says.0 ∙ drop_at front back (F.width k.shape) long))

-- What is left behind a place tells the place.
pub place-of : (us : List ℕ) (n : ℕ) → n ≤ length us → length us - length (drop n us) ≡ n
place-of us n h = rw length-drop (omega arith)

-- ---- scripts

module _ {A B : Type 0} (R : Route) (S : Sensible R.source) (us : List ℕ) (below : Below R.source.base us) (then : A → Script B) where
  -- What a pass over a script and what comes behind it is, by what running the script comes to.
  abbrev Comes : Script A → (to : ℕ) (m : List ℕ) → Passed → Outcome A → Type 0
  Comes s to m p (found a rest) =
      (fs : List Field)
      × Ends s fs a
      × (p ≡ pass R us (then a) (length us - length rest) (to + length (spell_all (spell_fixed R.target) fs)) (puts R.target to fs m))
  Comes s to m p (refused n place) = p ≡ R.refusal n (length us - length place)

  comes-behind : (k : Kind) (next : ℕ → Script A) (v to : ℕ) (m : List ℕ) (p : Passed) (o : Outcome A) → Allowed k v
      → Comes (next v) (to + R.target.width k.shape) (put to (spell_fixed R.target k v) m) p o → Comes (ask k next) to m p o
  comes-behind k next v to m p (found a rest) allowed h =
      let f : Field = record { kind = k; value = v } in
      let sum : to + R.target.width k.shape + length (spell_all (spell_fixed R.target) h.0) ≡ to + length (spell_all (spell_fixed R.target) (f ∷ h.0)) =
      rw (length-append, spelled-width R.target f) (omega arith) in (
        f ∷ h.0,
        (refl, allowed, h.1),
        h.2 ∙ ap (λ n. pass R us (then a) (length us - length rest) n (puts R.target to (f ∷ h.0) m)) sum,
      )
  comes-behind k next v to m p (refused n place) allowed h = h

  comes : (s : Script A) (at to : ℕ) (m : List ℕ) → at ≤ length us → Comes s to m (pass R us (followed s then) at to m) (run (fixed R.source) s (drop at us))
  comes (end a) at to m h = (
    [],
    refl,
    ap₂ (λ p q. pass R us (then a) p q m) (sym (place-of us at h)) (sym (Nat.add-zero to)),
  )
  comes (ask k next) at to m h =
      by ((fixed R.source).read k (drop at us)) (read_placed R.source k (drop at us)) ((fixed_lawful R.source S).explains k (drop at us) (below_drop R.source.base at us below))
      (λ v inside. comes (next v) (at + R.source.width k.shape) (to + R.target.width k.shape) (put to (spell_fixed R.target k v) m) inside)
    where
      behind : ℕ → Passed
      behind v = pass R us (followed (next v) then) (at + R.source.width k.shape) (to + R.target.width k.shape) (put to (spell_fixed R.target k v) m)

      by : (o : Outcome ℕ) → Placed R.source k (drop at us) o → Explained (fixed R.source) k (drop at us) o
          → ((v : ℕ) → at + R.source.width k.shape ≤ length us
          → Comes (next v) (to + R.target.width k.shape) (put to (spell_fixed R.target k v) m) (behind v) (run (fixed R.source) (next v) (drop (at + R.source.width k.shape) us)))
          → Comes (ask k next) to m (onward R at o behind) (and_then o (λ v rest. run (fixed R.source) (next v) rest))
      by (found v rest) placed explained more =
          let w = R.source.width k.shape in
          let there : w ≤ length us - at = rw length-drop at placed.0 in
          let inside : at + w ≤ length us = omega arith in
          let same : rest ≡ drop (at + w) us = placed.1 ∙ drop-drop w at us in
          comes-behind k next v to m (behind v) (run (fixed R.source) (next v) rest) explained.3
          (subst (λ r. Comes (next v) (to + R.target.width k.shape) (put to (spell_fixed R.target k v) m) (behind v) (run (fixed R.source) (next v) r)) (sym same) (more v inside))
      by (refused n place) placed explained more =
          ap (λ p. R.refusal n p) (sym (ap (λ l. length us - length l) placed ∙ place-of us at h))

-- ---- layouts

module _ {A : Type 0} (R : Route) (S : Sensible R.source) (us : List ℕ) (below : Below R.source.base us) (L : Layout A) (K : Script (Unit {0})) (at to : ℕ) (m : List ℕ) (inside : at ≤ length us) where
  all : Comes {B = Unit {0}} R S us below (λ a. K) (script L.format (λ a. end a)) to m (pass R us (L ⟫ K) at to m) (parse (fixed R.source) L (drop at us))
  all =
      subst (λ s. Comes {B = Unit {0}} R S us below (λ a. K) (script L.format (λ a. end a)) to m (pass R us s at to m) (parse (fixed R.source) L (drop at us)))
      (followed-script L.format (λ a. end a) (λ a. K))
      (comes R S us below (λ a. K) (script L.format (λ a. end a)) at to m inside)

  -- Where the layout parses, the pass goes on behind the value, with its fields put into memory.
  pub pass-found : (a : A) (rest : List ℕ) → parse (fixed R.source) L (drop at us) ≡ found a rest
      → pass R us (L ⟫ K) at to m ≡ pass R us K (length us - length rest) (to + length (encode (spell_fixed R.target) L a)) (puts R.target to (fields L.format a) m)
  pass-found a rest e =
      let h : Comes {B = Unit {0}} R S us below (λ a. K) (script L.format (λ a. end a)) to m (pass R us (L ⟫ K) at to m) (found a rest) =
      subst (Comes {B = Unit {0}} R S us below (λ a. K) (script L.format (λ a. end a)) to m (pass R us (L ⟫ K) at to m)) e all in
      let fs : h.0 ≡ fields L.format a = ended L.format h.0 a h.1 in
      h.2 ∙ ap (λ fs. pass R us K (length us - length rest) (to + length (spell_all (spell_fixed R.target) fs)) (puts R.target to fs m)) fs

  -- Where it does not, the pass stops.
  pub pass-refused : (n : ℕ) (place : List ℕ) → parse (fixed R.source) L (drop at us) ≡ refused n place
      → pass R us (L ⟫ K) at to m ≡ R.refusal n (length us - length place)
  pass-refused n place e =
      subst (Comes {B = Unit {0}} R S us below (λ a. K) (script L.format (λ a. end a)) to m (pass R us (L ⟫ K) at to m)) e all
