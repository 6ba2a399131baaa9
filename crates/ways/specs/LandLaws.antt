-- What a pass over a layout comes to, by what the layout parses to in the source.
use Rattle.std.specs.Prelude.{◌≡◌, refl, Bool, true, false, cond, ℕ, ◌+◌, ◌-◌, ◌<◌, ◌≤◌, List, eqb, ltb, length, drop}
use Rattle.std.proofs.Common.{sym, ap, subst, ◌∙◌, arith, ltb-true, ltb-false, eqb-true, eq-eqb}
use Rattle.format.specs.Digits.{Below}
use Rattle.format.specs.Codec.{Codec, Outcome, found, Explained}
use Rattle.format.specs.Codec as C
use Rattle.format.specs.FixedCodec.{spell_fixed}
use Rattle.format.specs.FixedReading.{fixed}
use Rattle.format.specs.FixedCodecLaws.{Sensible, fixed_lawful}
use Rattle.format.specs.Kind.{Kind, byte, size}
use Rattle.format.specs.Script.{Script, ask}
use Rattle.format.specs.Format.{fields}
use Rattle.format.specs.Layout.{Layout, field, encode}
use Rattle.format.specs.LeafLaws.{below_drop}
use Rattle.format.specs.Parse.{parse}
use Rattle.format.specs.ParsingLaws.{parse-field}
use Rattle.format.specs.Pass.{splice, put, through, stopped, onward, pass, ◌⟫◌, done}
use Rattle.format.specs.PassLaws.{puts, pass-found, pass-refused, puts_fit}
use Rattle.ways.specs.declared.FieldPass.{FieldPass}
use Rattle.ways.specs.Way.{Way, codec, route, source_units, target_units}
use Rattle.ways.specs.Passes.{refused, behind, behind_going}
use Rattle.ways.specs.Carries.{Asked, Laid}
use Rattle.ways.specs.LayoutLaws.{valued-laid}

-- The source's codec, and the units that a value has in the target.
abbrev pub reading : Way → Codec
reading W = fixed (codec W.source)

abbrev pub encoded : {A : Type 0} → Way → Layout A → A → List ℕ
encoded W L a = encode (spell_fixed (codec W.target)) L a

-- A value was passed: the pass goes on behind it, and where its units fit they stand in the memory.
pub record Landed {A : Type 0} (L : Layout A) (W : Way) (us m m' : List ℕ) (to at' to' : ℕ) (a : A) (rest : List ℕ) : Type 0 where
  pub on : at' < refused
  pub at-is : at' ≡ length us - length rest
  pub to_is : to' ≡ to + length (encoded W L a)
  pub stands : to + length (encoded W L a) ≤ length m → m' ≡ splice to (encoded W L a) m

-- It was refused.
pub record Failed (W : Way) (us : List ℕ) (at' to' n : ℕ) (place : List ℕ) : Type 0 where
  pub at-is : at' ≡ W.place (length us - length place) + refused
  pub to_is : to' ≡ W.number n

abbrev pub Lands : {A : Type 0} → Layout A → Way → (us m m' : List ℕ) → (to at' to' : ℕ) → Outcome A → Type 0
Lands L W us m m' to at' to' (found a rest) = Landed L W us m m' to at' to' a rest
Lands L W us m m' to at' to' (C.refused n place) = Failed W us at' to' n place

pub lands : {A : Type 0} (L : Layout A) {W : Way} {us m m' : List ℕ} {at to at' to' : ℕ} → Sensible (codec W.source) → Below W.source.base us → at ≤ length us → Laid L.format W us m m' at to at' to'
    → Lands L W us m m' to at' to' (parse (reading W) L (drop at us))
lands {A} L {W} {us} {m} {m'} {at} {to} {at'} {to'} sensible below inside laid = by (parse (reading W) L (drop at us)) refl
  where
    starts : pass (route W) us (L ⟫ done) at to m ≡ behind W us m' at' to' done
    starts =
        let short = laid.carried.ready.short in
        sym (behind_going W us m at to (L ⟫ done) (omega arith)) ∙ laid.carried.runs done

    found_at : (a : A) (rest : List ℕ) (on : Bool) → ltb at' refused ≡ on
        → through (length us - length rest) (to + length (encoded W L a)) (puts (codec W.target) to (fields L.format a) m) ≡ cond on (through at' to' m') (stopped to' (at' - refused))
        → Landed L W us m m' to at' to' a rest
    found_at a rest true on e =
        let memory : puts (codec W.target) to (fields L.format a) m ≡ m' = cc in
        record { on = ltb-true at' refused on; at-is = cc; to_is = cc; stands = λ fits. sym memory ∙ puts_fit (codec W.target) (fields L.format a) to m fits }
    found_at a rest false on e = let z : ◌≡◌ {A = ℕ} 0 1 = cc in absurd (omega arith)

    refused-at : (n : ℕ) (place : List ℕ) (on : Bool) → ltb at' refused ≡ on
        → stopped (W.number n) (W.place (length us - length place)) ≡ cond on (through at' to' m') (stopped to' (at' - refused)) → Failed W us at' to' n place
    refused-at n place true on e = let z : ◌≡◌ {A = ℕ} 0 1 = cc in absurd (omega arith)
    refused-at n place false on e =
        let gone = ltb-false at' refused on in
        let place_is : W.place (length us - length place) ≡ at' - refused = cc in
        record { at-is = omega (arith, gone, place_is); to_is = cc }

    by : (o : Outcome A) → parse (reading W) L (drop at us) ≡ o → Lands L W us m m' to at' to' o
    by (found a rest) e = found_at a rest (ltb at' refused) refl (sym (pass-found (route W) sensible us below L done at to m inside a rest e) ∙ starts)
    by (C.refused n place) e = refused-at n place (ltb at' refused) refl (sym (pass-refused (route W) sensible us below L done at to m inside n place e) ∙ starts)

-- ---- a field, and its value

-- What a field's pass comes to, by what is read of it: its value too.
abbrev pub Takes : Kind → Way → (us m m' : List ℕ) → (to : ℕ) → FieldPass → Outcome ℕ → Type 0
Takes k W us m m' to q (found v rest) = (q.value ≡ v) × Landed (field k) W us m m' to q.pass.at q.pass.to v rest
Takes k W us m m' to q (C.refused n place) = Failed W us q.pass.at q.pass.to n place

-- A kind of which no value is allowed.
abbrev never : Kind
never = record { shape = byte; fault = λ v. 1 }

pub takes : (k : Kind) {W : Way} {us m m' : List ℕ} {at to : ℕ} {q : FieldPass} → Sensible (codec W.source) → Below W.source.base us → at ≤ length us → Asked k W us m m' at to q
    → Takes k W us m m' to q ((reading W).read k (drop at us))
takes k {W} {us} {m} {m'} {at} {to} {q} sensible below inside asked =
    by ((reading W).read k (drop at us)) refl (subst (Lands (field k) W us m m' to q.pass.at q.pass.to) (parse-field (reading W) k (drop at us)) (lands (field k) sensible below inside (record { carried = (valued-laid asked).carried })))
  where
    -- Goes on with this value only.
    only : ℕ → ℕ → Script (Unit {0})
    only v w = cond (eqb w v) done (ask never (λ x. done))

    refuses : (place next : ℕ) (l : List ℕ) (o : Outcome ℕ) → Explained (reading W) never (drop place us) o → (x y : ℕ) (l' : List ℕ)
        → through x y l' ≡ onward (route W) place o (λ v. pass (route W) us done (place + source_units W 1) (next + target_units W 1) (put next (spell_fixed (codec W.target) never v) l)) → ⊥
    refuses place next l (found v rest) explained x y l' e = let z : ◌≡◌ {A = ℕ} 1 0 = explained.3.faultless in omega arith
    refuses place next l (C.refused n there) explained x y l' e = let z : ◌≡◌ {A = ℕ} 0 1 = cc in omega arith

    same : (v : ℕ) (rest : List ℕ) → (reading W).read k (drop at us) ≡ found v rest → q.pass.at < refused → q.value ≡ v
    same v rest reads on = told (eqb q.value v) refl
      where
        w : ℕ
        w = source_units W (size k.shape)

        u : ℕ
        u = target_units W (size k.shape)

        stored : List ℕ
        stored = put to (spell_fixed (codec W.target) k v) m

        goes : pass (route W) us (only v v) (at + w) (to + u) stored ≡ pass (route W) us (only v q.value) q.pass.at q.pass.to m'
        goes =
            let short = asked.ready.short in
            sym (ap (λ o. onward (route W) at o (λ v'. pass (route W) us (only v v') (at + w) (to + u) (put to (spell_fixed (codec W.target) k v') m))) reads)
            ∙ sym (behind_going W us m at to (ask k (only v)) (omega arith))
            ∙ asked.runs (only v)
            ∙ behind_going W us m' q.pass.at q.pass.to (only v q.value) on

        passes : through (at + w) (to + u) stored ≡ pass (route W) us (only v q.value) q.pass.at q.pass.to m'
        passes = ap (λ s. pass (route W) us (cond s done (ask never (λ x. done))) (at + w) (to + u) stored) (sym (eq-eqb v v refl)) ∙ goes

        told : (s : Bool) → eqb q.value v ≡ s → q.value ≡ v
        told true e = eqb-true q.value v e
        told false e =
            absurd (refuses q.pass.at q.pass.to m' ((reading W).read never (drop q.pass.at us))
            ((fixed_lawful (codec W.source) sensible).explains never (drop q.pass.at us) (below_drop W.source.base q.pass.at us below))
            (at + w) (to + u) stored
            (passes ∙ ap (λ s. pass (route W) us (cond s done (ask never (λ x. done))) q.pass.at q.pass.to m') e))

    by : (o : Outcome ℕ) → (reading W).read k (drop at us) ≡ o → Lands (field k) W us m m' to q.pass.at q.pass.to o → Takes k W us m m' to q o
    by (found v rest) reads landed = (same v rest reads landed.on, landed)
    by (C.refused n place) reads failed = failed
