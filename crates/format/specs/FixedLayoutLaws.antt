-- The laws of layouts, for codecs of fixed width: a file's bytes and a table's words.
use Rattle.std.specs.Prelude.{◌≡◌, refl, ◌↔◌, ◌⊎◌, ℕ, ◌+◌, List, [], ◌++◌, length}
use Rattle.std.proofs.Common.{ap, ◌∙◌, append-nil, length-append}
use Rattle.format.specs.Digits.{Below}
use Rattle.format.specs.Kind.{Kind, Field}
use Rattle.format.specs.Codec.{found, refused}
use Rattle.format.specs.FixedCodec.{Fixed, spell_fixed, SpelledBy, Cut, Faulty}
use Rattle.format.specs.FixedReading.{fixed}
use Rattle.format.specs.FixedCodecLaws.{Sensible, Literal, fixed_lawful, fixed_writes, fixed_strict, spelled-fixed, fixed-spelled, spelled-long}
use Rattle.format.specs.Script.{Script, end, Asks}
use Rattle.format.specs.ScriptLaws.{Halt}
use Rattle.format.specs.Format.{fields, script}
use Rattle.format.specs.Layout.{Layout, encode}
use Rattle.format.specs.Parse.{parse}
use Rattle.format.specs.LayoutLaws.{complete, complete-written, written-spelled, sound, sound_strict, refusal}

-- A field that is refused: the fields before it are spelled by the units before it, and it is cut or at fault.
pub record Stopped {R : Type 0} (F : Fixed) (s : Script R) (us : List ℕ) (n : ℕ) (at : List ℕ) : Type 0 where
  pub fields : List Field
  pub kind : Kind
  pub front : List ℕ
  pub asks : Asks s fields kind
  pub split : us ≡ front ++ at
  pub spelled : SpelledBy F fields front
  pub at-fault : Cut F kind at n ⊎ Faulty F kind at n

-- A good value stands in front, and this behind it.
pub record Spelt {A : Type 0} (F : Fixed) (L : Layout A) (us : List ℕ) (a : A) (rest : List ℕ) : Type 0 where
  pub good : L.Good a
  pub front : List ℕ
  pub split : us ≡ front ++ rest
  pub spelled : SpelledBy F (fields L.format a) front

module _ (F : Fixed) (S : Sensible F) where
  -- What is spelled parses to itself and what comes behind; so does what is encoded.
  pub parse-spelled : {A : Type 0} (L : Layout A) (a : A) → L.Good a → (us rest : List ℕ) → SpelledBy F (fields L.format a) us → parse (fixed F) L (us ++ rest) ≡ found a rest
  parse-spelled L a g us rest p = complete (fixed F) (fixed_lawful F S) L a g us rest (spelled-fixed F (fields L.format a) us rest p)

  pub parse-encoded : {A : Type 0} (L : Layout A) (a : A) → L.Good a → (rest : List ℕ) → parse (fixed F) L (encode (spell_fixed F) L a ++ rest) ≡ found a rest
  parse-encoded L a g rest = complete-written (fixed F) (fixed_lawful F S) L (spell_fixed F) (fixed_writes F S) a g rest

  -- A good value is spelled by its encoding.
  pub encoded-spelled : {A : Type 0} (L : Layout A) (a : A) → L.Good a → SpelledBy F (fields L.format a) (encode (spell_fixed F) L a)
  encoded-spelled L a g =
      fixed-spelled F (fields L.format a) (encode (spell_fixed F) L a) [] (written-spelled (fixed F) (fixed_lawful F S) L (spell_fixed F) (fixed_writes F S) a g [])

  -- What parses was good, and is spelled by what was there.
  pub parsed_spelt : {A : Type 0} (L : Layout A) (us : List ℕ) → Below F.base us → (a : A) (rest : List ℕ) → parse (fixed F) L us ≡ found a rest → Spelt F L us a rest
  parsed_spelt L us b a rest e =
      let h = sound (fixed F) (fixed_lawful F S) L us b a rest e in
      record { good = h.good; front = h.front; split = h.split; spelled = fixed-spelled F (fields L.format a) h.front rest h.spelled }

  -- A refusal is a run of good fields, and then one that is cut or at fault.
  pub refused-stopped : {A : Type 0} (L : Layout A) (us : List ℕ) → Below F.base us → (n : ℕ) (at : List ℕ)
      → (parse (fixed F) L us ≡ refused n at) ↔ Stopped F (script L.format (λ a. end a)) us n at
  refused-stopped {A} L us b n at = (λ e. stopped (law.0 e), λ h. law.1 (halted h))
    where
      law : (parse (fixed F) L us ≡ refused n at) ↔ Halt (fixed F) (script L.format (λ a. end a)) us n at
      law = refusal (fixed F) (fixed_lawful F S) L us b n at

      stopped : Halt (fixed F) (script L.format (λ a. end a)) us n at → Stopped F (script L.format (λ a. end a)) us n at
      stopped h =
          record {
            fields = h.fields;
            kind = h.kind;
            front = h.front;
            asks = h.asks;
            split = rw h.stops.0 h.split;
            spelled = fixed-spelled F h.fields h.front h.back h.spelled;
            at-fault = rw h.stops.0 h.stops.1;
          }

      halted : Stopped F (script L.format (λ a. end a)) us n at → Halt (fixed F) (script L.format (λ a. end a)) us n at
      halted h =
          record {
            fields = h.fields;
            kind = h.kind;
            front = h.front;
            back = at;
            asks = h.asks;
            split = h.split;
            spelled = spelled-fixed F h.fields h.front at h.spelled;
            stops = (refl, h.at-fault);
          }

  -- Where a number stands for itself or for nothing, what parses encodes to what was there.
  pub parsed_good : Literal F → {A : Type 0} (L : Layout A) (us : List ℕ) → Below F.base us → (a : A) (rest : List ℕ) → parse (fixed F) L us ≡ found a rest
      → L.Good a × (us ≡ encode (spell_fixed F) L a ++ rest)
  parsed_good lit L us b a rest e = sound_strict (fixed F) (fixed_lawful F S) L (spell_fixed F) (fixed_strict F S lit) us b a rest e

-- What stands in front is as long as its encoding.
pub spelt_length : {A : Type 0} {F : Fixed} {L : Layout A} {us : List ℕ} {a : A} {rest : List ℕ} → Spelt F L us a rest → length us ≡ length (encode (spell_fixed F) L a) + length rest
spelt_length {F = F} {L} {us} {a} {rest} spelt =
    ap length spelt.split ∙ length-append spelt.front rest ∙ ap (λ n. n + length rest) (spelled-long F (fields L.format a) spelt.front spelt.spelled)
