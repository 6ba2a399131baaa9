-- The laws of parsing and encoding, for any layout and any lawful codec: what is spelled parses to itself, what parses was good and is spelled by
-- what was there, and a refusal is good fields followed by one that is cut or at fault.
use Rattle.std.specs.Prelude.{◌≡◌, refl, ◌↔◌, ℕ, List, [], ◌∷◌, ◌++◌}
use Rattle.std.proofs.Common.{ap, ◌∙◌, subst, append-nil}
use Rattle.format.specs.Kind.{Field, Allowed}
use Rattle.format.specs.Codec.{Codec, Lawful, Writes, Strict, Spelled, found, refused}
use Rattle.format.specs.Spelling.{Spelling, spell_all}
use Rattle.format.specs.Script.{Script, end, ask}
use Rattle.format.specs.Parse.{parse}
use Rattle.format.specs.ScriptRun.{Ends}
use Rattle.format.specs.ScriptLaws.{Halt, Whole, Accounted, run_ends, run-asks, run_accounts}
use Rattle.format.specs.Format.{fields, script}
use Rattle.format.specs.FormatLaws.{ends-script, taken}
use Rattle.format.specs.Layout.{Layout, encode}

-- Every field is allowed by its own kind.
abbrev pub AllAllowed : List Field → Type 0
AllAllowed [] = Unit {0}
AllAllowed (f ∷ fs) = Allowed f.kind f.value × AllAllowed fs

-- So are the fields that a script was given, to its end.
pub ends_allowed : {R : Type 0} (s : Script R) (fs : List Field) (r : R) → Ends s fs r → AllAllowed fs
ends_allowed (end x) [] r e = tt
ends_allowed (end x) (f ∷ fs) r e = absurd e
ends_allowed (ask k next) [] r e = absurd e
ends_allowed (ask k next) (f ∷ fs) r e = (rw e.0 e.1, ends_allowed (next f.value) fs r e.2)

-- Allowed fields can be written.
pub spelled-all : (C : Codec) (spell : Spelling) → Writes C spell → (fs : List Field) (rest : List ℕ) → AllAllowed fs → Spelled C fs (spell_all spell fs) rest
spelled-all C spell w [] rest a = refl
spelled-all C spell w (f ∷ fs) rest a = (
  spell f.kind f.value,
  spell_all spell fs,
  refl,
  w f.kind f.value (spell_all spell fs ++ rest) a.0,
  spelled-all C spell w fs rest a.1,
)

-- Where a value has one spelling only, units that spell fields are the written ones.
pub spelled_strict : (C : Codec) (spell : Spelling) → Strict C spell → (fs : List Field) (us rest : List ℕ) → Spelled C fs us rest → us ≡ spell_all spell fs
spelled_strict C spell s [] us rest p = p
spelled_strict C spell s (f ∷ fs) us rest p =
    let e = s f.kind f.value p.0 (p.1 ++ rest) p.3 in
    let h = spelled_strict C spell s fs p.1 rest p.4 in
    p.2 ∙ rw (e, h)

at_end : {A : Type 0} (gs : List Field) (v a : A) → Ends (end v) gs a → (gs ≡ []) × (v ≡ a)
at_end [] v a e = (refl, e)
at_end (g ∷ gs) v a e = absurd e

module _ {A : Type 0} (C : Codec) (L : Lawful C) (F : Layout A) where
  -- A good value's fields are what the script asks for.
  ends_good : (a : A) → F.Good a → Ends (script F.format (λ a. end a)) (fields F.format a) a
  ends_good a g = rw append-nil at (ends-script F.format a g (λ a. end a) [] a refl)

  -- What is spelled parses to itself and what comes behind.
  pub complete : (a : A) → F.Good a → (us rest : List ℕ) → Spelled C (fields F.format a) us rest → parse C F (us ++ rest) ≡ found a rest
  complete a g us rest p = run_ends C L (script F.format (λ a. end a)) (fields F.format a) a us rest (ends_good a g) p

  -- A good value is spelled by what is written of it.
  pub written-spelled : (spell : Spelling) → Writes C spell → (a : A) → F.Good a → (rest : List ℕ) → Spelled C (fields F.format a) (encode spell F a) rest
  written-spelled spell w a g rest =
      spelled-all C spell w (fields F.format a) rest (ends_allowed (script F.format (λ a. end a)) (fields F.format a) a (ends_good a g))

  pub complete-written : (spell : Spelling) → Writes C spell → (a : A) → F.Good a → (rest : List ℕ) → parse C F (encode spell F a ++ rest) ≡ found a rest
  complete-written spell w a g rest = complete a g (encode spell F a) rest (written-spelled spell w a g rest)

  -- What the units hold, where they parse.
  pub record Held (us : List ℕ) (a : A) (rest : List ℕ) : Type 0 where
    pub good : F.Good a
    pub front : List ℕ
    pub split : us ≡ front ++ rest
    pub spelled : Spelled C (fields F.format a) front rest

  held : (us : List ℕ) (a : A) (rest : List ℕ) → Whole C (script F.format (λ a. end a)) us a rest → Held us a rest
  held us a rest w =
      let t = taken F.format (λ a. end a) w.fields a w.ends in
      let last = at_end t.behind t.value a t.ends in
      let same : w.fields ≡ fields F.format a = t.split ∙ rw (last.0, last.1) (append-nil (fields F.format a)) in
      record {
        good = rw last.1 at t.good;
        front = w.front;
        split = w.split;
        spelled = rw same at w.spelled;
      }

  pub sound : (us : List ℕ) → C.Units us → (a : A) (rest : List ℕ) → parse C F us ≡ found a rest → Held us a rest
  sound us u a rest e = held us a rest (subst (Accounted C (script F.format (λ a. end a)) us) e (run_accounts C L (script F.format (λ a. end a)) us u))

  -- A refusal, stated without parsing: good fields, and then one that is cut or at fault.
  pub refusal : (us : List ℕ) → C.Units us → (n : ℕ) (at : List ℕ) → (parse C F us ≡ refused n at) ↔ Halt C (script F.format (λ a. end a)) us n at
  refusal us u n at = (
    λ e. subst (Accounted C (script F.format (λ a. end a)) us) e (run_accounts C L (script F.format (λ a. end a)) us u),
    λ h. rw h.split (run-asks C L (script F.format (λ a. end a)) h.fields h.kind h.front h.back n at h.asks h.spelled h.stops),
  )

  -- Where a value has one spelling only, what parses encodes to what was there.
  pub sound_strict : (spell : Spelling) → Strict C spell → (us : List ℕ) → C.Units us → (a : A) (rest : List ℕ) → parse C F us ≡ found a rest → F.Good a × (us ≡ encode spell F a ++ rest)
  sound_strict spell s us u a rest e =
      let h = sound us u a rest e in
      (h.good, h.split ∙ ap (λ l. l ++ rest) (spelled_strict C spell s (fields F.format a) h.front rest h.spelled))
