-- Codecs of fixed width are lawful, and can be written with; those in which a number stands for itself have one spelling only.
use Rattle.std.specs.Prelude.{◌≡◌, refl, ◌⊎◌, Bool, true, false, cond, ℕ, zero, suc, ◌+◌, ◌<◌, ◌≤◌, ◌^◌, List, [], ◌∷◌, ◌++◌, length, ltb}
use Rattle.std.proofs.Common.{sym, ap, ap₂, ◌∙◌, inl, inr, length-append, arith, lt-ltb, ltb-true}
use Rattle.std.proofs.Math.Option.{Option, none, some, map}
use Rattle.std.proofs.Math.Nat as Nat
use Rattle.format.specs.Digits.{Below, number, digits}
use Rattle.format.specs.DigitsLaws.{length_digits, below_digits, number_digits, number_below, digits_number}
use Rattle.format.specs.Kind.{Shape, values, Kind, Field, Allowed}
use Rattle.format.specs.Codec.{Lawful, Writes, Strict, Spelled, found, refused, Explained}
use Rattle.format.specs.Spelling.{spell_all}
use Rattle.format.specs.FixedCodec.{Fixed, SpellsFixed, SpelledBy, Faulty, Cut, spell_fixed, number_fault}
use Rattle.format.specs.FixedReading.{fixed, split_at, value, fault, judged, verdict, judge, conclude, read_cut, standing, literal}

-- A run of units that is split off where it ends.
pub split_at-append : (front rest : List ℕ) (n : ℕ) → length front ≡ n → split_at n (front ++ rest) ≡ some (front, rest)
split_at-append [] rest zero e = refl
split_at-append [] rest (suc n) e = let z : ◌≡◌ {A = ℕ} 0 (suc n) = e in absurd (omega arith)
split_at-append (u ∷ front) rest zero e = let z : ◌≡◌ {A = ℕ} (suc (length front)) 0 = e in absurd (omega arith)
split_at-append (u ∷ front) rest (suc n) e =
    ap (map (λ parts. (u ∷ parts.0, parts.1))) (split_at-append front rest n (omega arith))

pub split_at-short : (us : List ℕ) (n : ℕ) → length us < n → split_at n us ≡ none
split_at-short us zero h = absurd (omega arith)
split_at-short [] (suc n) h = refl
split_at-short (u ∷ us) (suc n) h = ap (map (λ parts. (u ∷ parts.0, parts.1))) (split_at-short us n (omega arith))

-- What cutting came to says how the units lie.
abbrev pub SplitSays : ℕ → List ℕ → Option (List ℕ × List ℕ) → Type 0
SplitSays n us none = length us < n
SplitSays n us (some parts) = (us ≡ parts.0 ++ parts.1) × (length parts.0 ≡ n)

split_at-says_more : (n u : ℕ) (us : List ℕ) (o : Option (List ℕ × List ℕ)) → SplitSays n us o → SplitSays (suc n) (u ∷ us) (map (λ parts. (u ∷ parts.0, parts.1)) o)
split_at-says_more n u us none h = omega arith
split_at-says_more n u us (some parts) h = (ap {B = List ℕ} (λ l. u ∷ l) h.0, ap suc h.1)

pub split_at-says : (n : ℕ) (us : List ℕ) → SplitSays n us (split_at n us)
split_at-says zero us = (refl, refl)
split_at-says (suc n) [] = omega arith
split_at-says (suc n) (u ∷ us) = split_at-says_more n u us (split_at n us) (split_at-says n us)

pub below_front : (base : ℕ) (us rest : List ℕ) → Below base (us ++ rest) → Below base us
below_front base [] rest h = tt
below_front base (u ∷ us) rest h = (h.0, below_front base us rest h.1)

pub below_behind : (base : ℕ) (us rest : List ℕ) → Below base (us ++ rest) → Below base rest
below_behind base [] rest h = h
below_behind base (u ∷ us) rest h = below_behind base us rest h.1

pub below_append : (base : ℕ) (us rest : List ℕ) → Below base us → Below base rest → Below base (us ++ rest)
below_append base [] rest h g = g
below_append base (u ∷ us) rest h g = (h.0, below_append base us rest h.1 g)

-- What is asked of a codec of fixed width: a field's value fits its shape's bytes, and each such value has a spelling.
pub record Sensible (F : Fixed) : Type 0 where
  pub positive : 0 < F.base
  pub counted : 0 < F.meaningless
  pub fits : (s : Shape) (x v : ℕ) → x < F.base ^ F.width s → F.meaning s x ≡ some v → v < values s
  pub plain : (s : Shape) (v : ℕ) → v < values s → F.meaning s v ≡ some v
  pub room : (s : Shape) → values s ≤ F.base ^ F.width s

-- A number stands for itself or for nothing.
abbrev pub Literal : Fixed → Type 0
Literal F = (s : Shape) (x v : ℕ) → F.meaning s x ≡ some v → x ≡ v

module _ (F : Fixed) (S : Sensible F) where
  judge_value : (k : Kind) (v : ℕ) (us : List ℕ) → SpellsFixed F k v us → Allowed k v → judge F k us ≡ value v
  judge_value k v us p a = rw (p.means, a.faultless)

  fixed_reads : (k : Kind) (v : ℕ) (us rest : List ℕ) → SpellsFixed F k v us → Allowed k v → read_cut F k (us ++ rest) (split_at (F.width k.shape) (us ++ rest)) ≡ found v rest
  fixed_reads k v us rest p a = rw (split_at-append us rest (F.width k.shape) p.long, judge_value k v us p a)

  -- A fault is what the digits come to.
  faulty-verdict : (k : Kind) (n : ℕ) (m : Option ℕ) → number_fault F k m ≡ n → 0 < n → verdict F k m ≡ fault n
  faulty-verdict k n none e h = ap fault e
  faulty-verdict k zero (some v) e h = absurd (omega arith)
  faulty-verdict k (suc n) (some v) e h = rw e

  fixed_stops : (k : Kind) (us : List ℕ) (n : ℕ) → Cut F k us n ⊎ Faulty F k us n → read_cut F k us (split_at (F.width k.shape) us) ≡ refused n us
  fixed_stops k us n (inl h) = rw (split_at-short us (F.width k.shape) h.short, h.number_is)
  fixed_stops k us n (inr h) =
      let c : split_at (F.width k.shape) us ≡ some (h.front, h.rest) = rw h.split (split_at-append h.front h.rest (F.width k.shape) h.whole) in
      rw (c, faulty-verdict k n (F.meaning k.shape (number F.base h.front)) h.fault-is h.some_fault)

  -- What a verdict says of the digits.
  explain_verdict : (k : Kind) (us front rest : List ℕ) → Below F.base us → us ≡ front ++ rest → length front ≡ F.width k.shape
      → (m : Option ℕ) → F.meaning k.shape (number F.base front) ≡ m → Explained (fixed F) k us (conclude (verdict F k m) us rest)
  explain_verdict k us front rest b e l none h =
      (refl, inr (record { front = front; rest = rest; split = e; whole = l; fault-is = rw h; some_fault = S.counted }))
  explain_verdict k us front rest b e l (some v) h = judged_so (k.fault v) refl
    where
      below : Below F.base front
      below = below_front F.base front rest (rw e at b)

      fits : v < values k.shape
      fits = S.fits k.shape (number F.base front) v (rw (← l) (number_below F.base front below)) h

      judged_so : (f : ℕ) → k.fault v ≡ f → Explained (fixed F) k us (conclude (judged v f) us rest)
      judged_so zero q = (front, e, record { long = l; below = below; means = h }, record { fits = fits; faultless = q })
      judged_so (suc n) q = (refl, inr (record { front = front; rest = rest; split = e; whole = l; fault-is = rw (h, q); some_fault = omega arith }))

  explain_cut : (k : Kind) (us : List ℕ) → Below F.base us → (o : Option (List ℕ × List ℕ)) → SplitSays (F.width k.shape) us o → Explained (fixed F) k us (read_cut F k us o)
  explain_cut k us b none h = (refl, inl (record { short = h; number_is = refl }))
  explain_cut k us b (some parts) h =
      explain_verdict k us parts.0 parts.1 b h.0 h.1 (F.meaning k.shape (number F.base parts.0)) refl

  pub fixed_lawful : Lawful (fixed F)
  fixed_lawful =
      record {
        reads = λ k v us rest p a. fixed_reads k v us rest p a;
        stops = λ k us n at p. rw p.0 (fixed_stops k us n p.1);
        explains = λ k us b. explain_cut k us b (split_at (F.width k.shape) us) (split_at-says (F.width k.shape) us);
        behind = λ us rest b. below_behind F.base us rest b;
      }

  spell_fixed_lem : (k : Kind) (v : ℕ) → Allowed k v → SpellsFixed F k v (digits F.base (F.width k.shape) v)
  spell_fixed_lem k v a =
      let small : v < F.base ^ F.width k.shape = Nat.le_trans a.fits (S.room k.shape) in
      record {
        long = length_digits F.base (F.width k.shape) v;
        below = below_digits F.base (F.width k.shape) v S.positive;
        means = rw (number_digits F.base (F.width k.shape) v S.positive small) (S.plain k.shape v a.fits);
      }

  pub fixed_writes : Writes (fixed F) (spell_fixed F)
  fixed_writes k v rest a = spell_fixed_lem k v a

  -- What is written is made of the codec's units.
  pub below_spelled : (fs : List Field) → Below F.base (spell_all (spell_fixed F) fs)
  below_spelled [] = tt
  below_spelled (f ∷ fs) =
      below_append F.base (spell_fixed F f.kind f.value) (spell_all (spell_fixed F) fs)
      (below_digits F.base (F.width f.kind.shape) f.value S.positive)
      (below_spelled fs)

  pub fixed_strict : Literal F → Strict (fixed F) (spell_fixed F)
  fixed_strict lit k v us rest p =
      let e : number F.base us ≡ v = lit k.shape (number F.base us) v p.means in
      rw (← e, ← p.long) (sym (digits_number F.base us S.positive p.below))

-- The two ways to say that units spell fields: what comes behind them does not matter here.
pub spelled-fixed : (F : Fixed) (fs : List Field) (us rest : List ℕ) → SpelledBy F fs us → Spelled (fixed F) fs us rest
spelled-fixed F [] us rest p = p
spelled-fixed F (f ∷ fs) us rest p = (p.0, p.1, p.2, p.3, spelled-fixed F fs p.1 rest p.4)

pub fixed-spelled : (F : Fixed) (fs : List Field) (us rest : List ℕ) → Spelled (fixed F) fs us rest → SpelledBy F fs us
fixed-spelled F [] us rest p = p
fixed-spelled F (f ∷ fs) us rest p = (p.0, p.1, p.2, p.3, fixed-spelled F fs p.1 rest p.4)

-- However fields are spelled, they have the digits of their shapes.
pub spelled-long : (F : Fixed) (fs : List Field) (us : List ℕ) → SpelledBy F fs us → length us ≡ length (spell_all (spell_fixed F) fs)
spelled-long F [] us p = ap length p
spelled-long F (f ∷ fs) us p =
    let front : length p.0 ≡ F.width f.kind.shape = p.3.long in
    ap length p.2
    ∙ length-append p.0 p.1
    ∙ ap₂ ◌+◌ (front ∙ sym (length_digits F.base (F.width f.kind.shape) f.value)) (spelled-long F fs p.1 p.4)
    ∙ sym (length-append (spell_fixed F f.kind f.value) (spell_all (spell_fixed F) fs))

-- The test that what a number stands for is one of the shape's values.
standing-says : (s : Shape) (x v : ℕ) (t : Bool) → ltb x (values s) ≡ t → cond t (some x) none ≡ some v → (x ≡ v) × (x < values s)
standing-says s x v true h e = (cc, ltb-true x (values s) h)
standing-says s x v false h e = let z : ◌≡◌ {A = ℕ} 0 1 = cc in absurd (omega arith)

module _ (base : ℕ) (width : Shape → ℕ) (meant : Shape → ℕ → ℕ) (missing meaningless : ℕ) where
  pub standing-meant : (s : Shape) (x v : ℕ) → (standing base width meant missing meaningless).meaning s x ≡ some v → meant s x ≡ v
  standing-meant s x v e = (standing-says s (meant s x) v (ltb (meant s x) (values s)) refl e).0

  pub standing_sensible : 0 < base → 0 < meaningless → ((s : Shape) (v : ℕ) → v < values s → meant s v ≡ v) → ((s : Shape) → values s ≤ base ^ width s) → Sensible (standing base width meant missing meaningless)
  standing_sensible positive counted own room =
      record {
        positive = positive;
        counted = counted;
        fits = λ s x v h e. let w = standing-says s (meant s x) v (ltb (meant s x) (values s)) refl e in rw (← w.0) w.1;
        plain = λ s v h. rw (own s v h, lt-ltb v (values s) h);
        room = room;
      }

module _ (base : ℕ) (width : Shape → ℕ) (missing meaningless : ℕ) where
  pub literal-literal : Literal (literal base width missing meaningless)
  literal-literal s x v e = standing-meant base width (λ s x. x) missing meaningless s x v e

  pub literal_sensible : 0 < base → 0 < meaningless → ((s : Shape) → values s ≤ base ^ width s) → Sensible (literal base width missing meaningless)
  literal_sensible positive counted room = standing_sensible base width (λ s x. x) missing meaningless positive counted (λ s v h. refl) room

-- A refusal's number is never 0.
pub fault_positive : (F : Fixed) → 0 < F.missing → (k : Kind) (us : List ℕ) (n : ℕ) → Cut F k us n ⊎ Faulty F k us n → 0 < n
fault_positive F c k us n (inl h) = rw h.number_is c
fault_positive F c k us n (inr h) = h.some_fault
