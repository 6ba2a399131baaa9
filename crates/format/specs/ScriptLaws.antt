-- What running a script comes to, for any lawful codec: exactly the fields that the units spell.
use Rattle.std.specs.Prelude.{◌≡◌, refl, ℕ, List, [], ◌∷◌, ◌++◌}
use Rattle.std.proofs.Common.{◌∙◌, append_assoc}
use Rattle.format.specs.Kind.{Kind, Field, Allowed}
use Rattle.format.specs.Codec.{Codec, Lawful, Outcome, found, refused, and_then, Explained, Spelled}
use Rattle.format.specs.Script.{Script, end, ask, Asks}
use Rattle.format.specs.ScriptRun.{run, Ends}

-- Given these fields, run as the codec has them spelled, a script stops at a field of the kind k: the field is cut or at fault.
pub record Halt {R : Type 0} (C : Codec) (s : Script R) (us : List ℕ) (n : ℕ) (at : List ℕ) : Type 0 where
  pub fields : List Field
  pub kind : Kind
  pub front : List ℕ
  pub back : List ℕ
  pub asks : Asks s fields kind
  pub split : us ≡ front ++ back
  pub spelled : Spelled C fields front back
  pub stops : C.Stops kind back n at

-- Run to its end, a script was given fields that the codec has spelled.
pub record Whole {R : Type 0} (C : Codec) (s : Script R) (us : List ℕ) (r : R) (rest : List ℕ) : Type 0 where
  pub fields : List Field
  pub front : List ℕ
  pub ends : Ends s fields r
  pub split : us ≡ front ++ rest
  pub spelled : Spelled C fields front rest

abbrev pub Accounted : {R : Type 0} → Codec → Script R → List ℕ → Outcome R → Type 0
Accounted C s us (found r rest) = Whole C s us r rest
Accounted C s us (refused n at) = Halt C s us n at

module _ {R : Type 0} (C : Codec) (L : Lawful C) where
  -- A field that is spelled is read, and the script goes on with its value.
  run_ask : (k : Kind) (next : ℕ → Script R) (f : Field) (front back rest : List ℕ)
      → f.kind ≡ k → Allowed k f.value → C.Spells f.kind f.value front (back ++ rest)
      → run C (ask k next) (front ++ back ++ rest) ≡ run C (next f.value) (back ++ rest)
  run_ask k next f front back rest e a p =
      let q : C.Spells k f.value front (back ++ rest) = rw e at p in
      rw (append_assoc, L.reads k f.value front (back ++ rest) q a)

  -- Fields that are spelled are read back, and the script ends as they make it end.
  pub run_ends : (s : Script R) (fs : List Field) (r : R) (us rest : List ℕ) → Ends s fs r → Spelled C fs us rest → run C s (us ++ rest) ≡ found r rest
  run_ends (end x) [] r us rest e p = rw (e, p)
  run_ends (ask k next) (f ∷ fs) r us rest e p = rw p.2 (run_ask k next f p.0 p.1 rest e.0 e.1 p.3 ∙ run_ends (next f.value) fs r p.1 rest e.2 p.4)
  run_ends (end x) (f ∷ fs) r us rest e p = absurd e
  run_ends (ask k next) [] r us rest e p = absurd e

  pub run-asks : (s : Script R) (fs : List Field) (k : Kind) (us rest : List ℕ) (n : ℕ) (at : List ℕ)
      → Asks s fs k → Spelled C fs us rest → C.Stops k rest n at → run C s (us ++ rest) ≡ refused n at
  run-asks (end x) fs k us rest n at e p h = absurd e
  run-asks (ask k next) [] k' us rest n at e p h = rw (p, e, L.stops k' rest n at h)
  run-asks (ask k next) (f ∷ fs) k' us rest n at e p h = rw p.2 (run_ask k next f p.0 p.1 rest e.0 e.1 p.3 ∙ run-asks (next f.value) fs k' p.1 rest n at e.2 p.4 h)

  -- What is so of the rest of a script, behind a field, is so of the whole.
  behind : (k : Kind) (next : ℕ → Script R) (v : ℕ) (us front rest : List ℕ) (o : Outcome R)
      → us ≡ front ++ rest → C.Spells k v front rest → Allowed k v → Accounted C (next v) rest o → Accounted C (ask k next) us o
  behind k next v us front rest (found r rest') e p a h =
      record {
        fields = record { kind = k; value = v } ∷ h.fields;
        front = front ++ h.front;
        ends = (refl, a, h.ends);
        split = rw (append_assoc, ← h.split) e;
        spelled = (front, h.front, refl, rw (← h.split) p, h.spelled);
      }
  behind k next v us front rest (refused n at) e p a h =
      record {
        fields = record { kind = k; value = v } ∷ h.fields;
        kind = h.kind;
        front = front ++ h.front;
        back = h.back;
        asks = (refl, a, h.asks);
        split = rw (append_assoc, ← h.split) e;
        spelled = (front, h.front, refl, rw (← h.split) p, h.spelled);
        stops = h.stops;
      }

  asked : (k : Kind) (next : ℕ → Script R) (us : List ℕ) (o : Outcome ℕ) → Explained C k us o
      → ((v : ℕ) (front rest : List ℕ) → us ≡ front ++ rest → Accounted C (next v) rest (run C (next v) rest))
      → Accounted C (ask k next) us (and_then o (λ v rest. run C (next v) rest))
  asked k next us (found v rest) x h = behind k next v us x.0 rest (run C (next v) rest) x.1 x.2 x.3 (h v x.0 rest x.1)
  asked k next us (refused n at) x h =
      record { fields = []; kind = k; front = []; back = us; asks = refl; split = refl; spelled = refl; stops = x }

  -- Whatever running comes to, it is what the units say.
  pub run_accounts : (s : Script R) (us : List ℕ) → C.Units us → Accounted C s us (run C s us)
  run_accounts (end x) us u = record { fields = []; front = []; ends = refl; split = refl; spelled = refl }
  run_accounts (ask k next) us u =
      asked k next us (C.read k us) (L.explains k us u) (λ v front rest e. run_accounts (next v) rest (L.behind front rest (rw e at u)))
