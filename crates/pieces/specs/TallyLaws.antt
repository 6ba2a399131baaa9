-- What scripts come to on bytes with more behind them, and one behind the other.
use Rattle.std.specs.Prelude.{◌≡◌, refl, ◌⊎◌, ℕ, zero, suc, ◌+◌, ◌-◌, ◌/◌, ◌<◌, ◌≤◌, List, [], ◌∷◌, ◌++◌, length, drop}
use Rattle.std.proofs.Common.{sym, ap, ◌∙◌, subst, inl, inr, arith, append_assoc, length-append, length-drop, drop_at, drop-drop}
use Rattle.std.proofs.Math.Option.{Option, none, some}
use Rattle.std.proofs.Math.Nat as Nat
use Rattle.format.specs.Kind.{Kind, Shape, size}
use Rattle.format.specs.Codec.{Outcome, found, refused, and_then}
use Rattle.format.specs.FixedCodec.{Fixed}
use Rattle.format.specs.FixedReading.{fixed, split_at, Verdict, value, fault, judge, conclude, read_cut}
use Rattle.format.specs.FixedCodecLaws.{SplitSays, split_at-says, split_at-append}
use Rattle.format.specs.Script.{Script, end, ask}
use Rattle.format.specs.ParsingLaws.{and_then_same, followed, followed-script}
use Rattle.format.specs.Format.{script}
use Rattle.format.specs.Layout.{Layout}
use Rattle.format.specs.Pass.{◌⟫◌, done}
use Rattle.format.specs.PassLaws.{Placed, read_placed}
use Rattle.drawing.specs.Codecs.{byte_fields, word_fields}
use Rattle.drawing.specs.Reading.{bytes}
use Rattle.pieces.specs.Tally.{plus, tallied}

-- ---- one field

-- What a reading says of the same bytes with more behind them: a field that is cut is shorter than its bytes, all else stays.
abbrev More : Kind → (us : List ℕ) → Outcome ℕ → Type 0
More k us (found v rest) = (more : List ℕ) → bytes.read k (us ++ more) ≡ found v (rest ++ more)
More k us (refused n place) = ((more : List ℕ) → bytes.read k (us ++ more) ≡ refused n (us ++ more)) ⊎ ((n ≡ 2) × (length us < byte_fields.width k.shape))

read_more : (k : Kind) (us : List ℕ) → More k us (bytes.read k us)
read_more k us = cut (split_at (byte_fields.width k.shape) us) (split_at-says (byte_fields.width k.shape) us)
  where
    cut : (o : Option (List ℕ × List ℕ)) → SplitSays (byte_fields.width k.shape) us o → More k us (read_cut byte_fields k us o)
    cut none says = inr (refl, says)
    cut (some parts) says = concluded (judge byte_fields k parts.0) refl
      where
        again : (more : List ℕ) → bytes.read k (us ++ more) ≡ conclude (judge byte_fields k parts.0) (us ++ more) (parts.1 ++ more)
        again more =
            ap (λ o. read_cut byte_fields k (us ++ more) o)
            (ap (λ l. split_at (byte_fields.width k.shape) (l ++ more)) says.0
            ∙ ap (split_at (byte_fields.width k.shape)) (append_assoc parts.0 parts.1 more)
            ∙ split_at-append parts.0 (parts.1 ++ more) (byte_fields.width k.shape) says.1)

        concluded : (j : Verdict) → judge byte_fields k parts.0 ≡ j → More k us (conclude j us parts.1)
        concluded (value v) e = λ more. again more ∙ ap (λ j. conclude j (us ++ more) (parts.1 ++ more)) e
        concluded (fault n) e = inl (λ more. again more ∙ ap (λ j. conclude j (us ++ more) (parts.1 ++ more)) e)

-- ---- scripts

pub plus-zero : {R : Type 0} (o : Outcome (R × ℕ)) → plus 0 o ≡ o
plus-zero (found t rest) = let z : 0 + t.1 ≡ t.1 = omega arith in ap (λ w. found (t.0, w) rest) z
plus-zero (refused n place) = refl

pub plus-plus : {R : Type 0} (a b : ℕ) (o : Outcome (R × ℕ)) → plus a (plus b o) ≡ plus (a + b) o
plus-plus a b (found t rest) = let z : a + (b + t.1) ≡ a + b + t.1 = omega arith in ap (λ w. found (t.0, w) rest) z
plus-plus a b (refused n place) = refl

-- A script that has come to its end has done so with anything behind.
pub found_more : {R : Type 0} (s : Script R) (us : List ℕ) (t : R × ℕ) (rest : List ℕ) → tallied s us ≡ found t rest → (more : List ℕ) → tallied s (us ++ more) ≡ found t (rest ++ more)
found_more (end r) us t rest e more = ap (λ o. and_then o (λ t l. found t (l ++ more))) e
found_more {R} (ask k next) us t rest e more = by (bytes.read k us) (read_more k us) e (λ v l t' h. found_more (next v) l t' rest h more)
  where
    wide : ℕ
    wide = word_fields.width k.shape

    counted : (v : ℕ) (l : List ℕ) (o : Outcome (R × ℕ)) → tallied (next v) l ≡ o → plus wide o ≡ found t rest
        → ((t' : R × ℕ) → tallied (next v) l ≡ found t' rest → tallied (next v) (l ++ more) ≡ found t' (rest ++ more))
        → plus wide (tallied (next v) (l ++ more)) ≡ found t (rest ++ more)
    counted v l (found t' rest') h q step =
        let same : rest' ≡ rest = cc in
        let so : (t'.0, wide + t'.1) ≡ t = cc in
        ap (plus wide) (step t' (h ∙ ap (λ l. found t' l) same)) ∙ ap (λ t. found t (rest ++ more)) so
    counted v l (refused n place) h q step = let z : ◌≡◌ {A = ℕ} 0 1 = cc in absurd (omega arith)

    by : (o : Outcome ℕ) → More k us o → and_then o (λ v l. plus wide (tallied (next v) l)) ≡ found t rest
        → ((v : ℕ) (l : List ℕ) (t' : R × ℕ) → tallied (next v) l ≡ found t' rest → tallied (next v) (l ++ more) ≡ found t' (rest ++ more))
        → and_then (bytes.read k (us ++ more)) (λ v l. plus wide (tallied (next v) l)) ≡ found t (rest ++ more)
    by (found v l) m q step = ap (λ o. and_then o (λ v l. plus wide (tallied (next v) l))) (m more) ∙ counted v l (tallied (next v) l) refl q (step v l)
    by (refused n place) m q step = let z : ◌≡◌ {A = ℕ} 0 1 = cc in absurd (omega arith)

-- ---- parts of bounded size

-- The fields that a script asks for take at most so many bytes.
abbrev pub Under : {R : Type 0} → ℕ → Script R → Type 0
Under n (end r) = Unit {0}
Under n (ask k next) = (byte_fields.width k.shape ≤ n) × ((v : ℕ) → Under (n - byte_fields.width k.shape) (next v))

-- A script that was refused: for good, or it is cut and fewer bytes are there than it may take.
abbrev pub Halted : {R : Type 0} → ℕ → Script R → (us : List ℕ) → (n : ℕ) → (place : List ℕ) → Type 0
Halted room s us n place = ((more : List ℕ) → tallied s (us ++ more) ≡ refused n (place ++ more)) ⊎ ((n ≡ 2) × (length us < room))

pub halted : {R : Type 0} (room : ℕ) (s : Script R) → Under room s → (us : List ℕ) (n : ℕ) (place : List ℕ) → tallied s us ≡ refused n place → Halted room s us n place
halted room (end r) under us n place e = let z : ◌≡◌ {A = ℕ} 0 1 = cc in absurd (omega arith)
halted {R} room (ask k next) under us n place e =
    by (bytes.read k us) (read_more k us) (read_placed byte_fields k us) e (λ v l h. halted (room - byte_fields.width k.shape) (next v) (under.1 v) l n place h)
  where
    wide : ℕ
    wide = word_fields.width k.shape

    then : ℕ → List ℕ → Outcome (R × ℕ)
    then v l = plus wide (tallied (next v) l)

    counted : (v : ℕ) (l : List ℕ) (o : Outcome (R × ℕ)) → tallied (next v) l ≡ o → plus wide o ≡ refused n place → tallied (next v) l ≡ refused n place
    counted v l (found t rest) h q = let z : ◌≡◌ {A = ℕ} 0 1 = cc in absurd (omega arith)
    counted v l (refused n' place') h q = h ∙ q

    onward : (v : ℕ) (l : List ℕ) → ((more : List ℕ) → bytes.read k (us ++ more) ≡ found v (l ++ more)) → byte_fields.width k.shape ≤ length us → l ≡ drop (byte_fields.width k.shape) us
        → Halted (room - byte_fields.width k.shape) (next v) l n place → Halted room (ask k next) us n place
    onward v l m there is (inl stays) = inl (λ more. ap (λ o. and_then o then) (m more) ∙ ap (plus wide) (stays more))
    onward v l m there is (inr short) =
        let long : length l ≡ length us - byte_fields.width k.shape = ap length is ∙ length-drop (byte_fields.width k.shape) us in
        let less = short.1 in
        inr (short.0, omega (arith, long, less, there))

    by : (o : Outcome ℕ) → More k us o → Placed byte_fields k us o → and_then o then ≡ refused n place
        → ((v : ℕ) (l : List ℕ) → tallied (next v) l ≡ refused n place → Halted (room - byte_fields.width k.shape) (next v) l n place)
        → Halted room (ask k next) us n place
    by (found v l) m placed q step = onward v l m placed.0 placed.1 (step v l (counted v l (tallied (next v) l) refl q))
    by (refused n' place') (inl stays) placed q step =
        let number_is : n' ≡ n = cc in
        let place_is : us ≡ place = sym placed ∙ (let p : place' ≡ place = cc in p) in
        inl (λ more. ap (λ o. and_then o then) (stays more) ∙ ap (λ x. refused x (us ++ more)) number_is ∙ ap (λ l. refused n (l ++ more)) place_is)
    by (refused n' place') (inr short) placed q step =
        let number_is : n' ≡ n = cc in
        let fits = under.0 in
        let less = short.1 in
        inr (sym number_is ∙ short.0, omega (arith, fits, less))

-- ---- one script behind another

and_then_plus : {A R : Type 0} (w : ℕ) (o : Outcome (A × ℕ)) (f : A → List ℕ → Outcome (R × ℕ))
    → plus w (and_then o (λ t rest. plus t.1 (f t.0 rest))) ≡ and_then (plus w o) (λ t rest. plus t.1 (f t.0 rest))
and_then_plus w (found t rest) f = plus-plus w t.1 (f t.0 rest)
and_then_plus w (refused n place) f = refl

pub tallied-followed : {A R : Type 0} (s : Script A) (then : A → Script R) (us : List ℕ)
    → tallied (followed s then) us ≡ and_then (tallied s us) (λ t rest. plus t.1 (tallied (then t.0) rest))
tallied-followed (end a) then us = sym (plus-zero (tallied (then a) us))
tallied-followed {A} {R} (ask k next) then us = by (bytes.read k us) (λ v rest. tallied-followed (next v) then rest)
  where
    wide : ℕ
    wide = word_fields.width k.shape

    on : A → List ℕ → Outcome (R × ℕ)
    on a rest = tallied (then a) rest

    by : (o : Outcome ℕ) → ((v : ℕ) (rest : List ℕ) → tallied (followed (next v) then) rest ≡ and_then (tallied (next v) rest) (λ t rest. plus t.1 (on t.0 rest)))
        → and_then o (λ v rest. plus wide (tallied (followed (next v) then) rest)) ≡ and_then (and_then o (λ v rest. plus wide (tallied (next v) rest))) (λ t rest. plus t.1 (on t.0 rest))
    by (found v rest) h = ap (plus wide) (h v rest) ∙ and_then_plus wide (tallied (next v) rest) on
    by (refused n place) h = refl

-- ---- what is taken

-- A script that asks for a field.
abbrev pub Asks : {R : Type 0} → Script R → Type 0
Asks (end r) = ⊥
Asks (ask k next) = 0 < byte_fields.width k.shape

few_words : (s : Shape) → word_fields.width s ≤ byte_fields.width s
few_words s = few (size s)
  where
    few : (n : ℕ) → (n + 3) / 4 ≤ n
    few zero = omega arith
    few (suc n) = omega arith

-- What is found leaves no more than there was, and its words are no more than the bytes taken.
pub found_shorter : {R : Type 0} (s : Script R) (us : List ℕ) (t : R × ℕ) (rest : List ℕ) → tallied s us ≡ found t rest → length rest + t.1 ≤ length us
found_shorter {R} (end r) us t rest e =
    let same : us ≡ rest = cc in
    let pair : (r, 0) ≡ t = cc in
    let none_more : 0 ≡ t.1 = ap (λ (t : R × ℕ). t.1) pair in
    let long : length us ≡ length rest = ap length same in
    omega arith
found_shorter {R} (ask k next) us t rest e = by (bytes.read k us) (read_placed byte_fields k us) e (λ v l t' h. found_shorter (next v) l t' rest h)
  where
    wide : ℕ
    wide = word_fields.width k.shape

    counted : (v : ℕ) (l : List ℕ) (o : Outcome (R × ℕ)) → tallied (next v) l ≡ o → plus wide o ≡ found t rest → byte_fields.width k.shape ≤ length us → length l ≡ length us - byte_fields.width k.shape
        → ((t' : R × ℕ) → tallied (next v) l ≡ found t' rest → length rest + t'.1 ≤ length l) → length rest + t.1 ≤ length us
    counted v l (found t' rest') h q there long step =
        let same : rest' ≡ rest = cc in
        let pair : (t'.0, wide + t'.1) ≡ t = cc in
        let words : wide + t'.1 ≡ t.1 = ap (λ (t : R × ℕ). t.1) pair in
        let less = step t' (h ∙ ap (λ l. found t' l) same) in
        let few : wide ≤ byte_fields.width k.shape = few_words k.shape in
        omega arith
    counted v l (refused n place) h q there long step = let z : ◌≡◌ {A = ℕ} 0 1 = cc in absurd (omega arith)

    by : (o : Outcome ℕ) → Placed byte_fields k us o → and_then o (λ v l. plus wide (tallied (next v) l)) ≡ found t rest
        → ((v : ℕ) (l : List ℕ) (t' : R × ℕ) → tallied (next v) l ≡ found t' rest → length rest + t'.1 ≤ length l) → length rest + t.1 ≤ length us
    by (found v l) placed q step = counted v l (tallied (next v) l) refl q placed.0 (ap length placed.1 ∙ length-drop (byte_fields.width k.shape) us) (step v l)
    by (refused n place) placed q step = let z : ◌≡◌ {A = ℕ} 0 1 = cc in absurd (omega arith)

-- A script that asks for a field takes a byte.
pub asks_takes : {R : Type 0} (s : Script R) → Asks s → (us : List ℕ) (t : R × ℕ) (rest : List ℕ) → tallied s us ≡ found t rest → length rest < length us
asks_takes (end r) asks us t rest e = absurd asks
asks_takes {R} (ask k next) asks us t rest e = by (bytes.read k us) (read_placed byte_fields k us) e
  where
    counted : (v : ℕ) (l : List ℕ) (o : Outcome (R × ℕ)) → tallied (next v) l ≡ o → plus (word_fields.width k.shape) o ≡ found t rest → length rest ≤ length l
    counted v l (found t' rest') h q =
        let same : rest' ≡ rest = cc in
        let less = found_shorter (next v) l t' rest (h ∙ ap (λ l. found t' l) same) in
        omega arith
    counted v l (refused n place) h q = let z : ◌≡◌ {A = ℕ} 0 1 = cc in absurd (omega arith)

    by : (o : Outcome ℕ) → Placed byte_fields k us o → and_then o (λ v l. plus (word_fields.width k.shape) (tallied (next v) l)) ≡ found t rest → length rest < length us
    by (found v l) placed q =
        let long : length l ≡ length us - byte_fields.width k.shape = ap length placed.1 ∙ length-drop (byte_fields.width k.shape) us in
        let there = placed.0 in
        let less = counted v l (tallied (next v) l) refl q in
        omega arith
    by (refused n place) placed q = let z : ◌≡◌ {A = ℕ} 0 1 = cc in absurd (omega arith)
