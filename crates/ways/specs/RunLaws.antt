-- A pass that takes a run goes on as the script of its fields does: past them, or refused as the codec refuses one of them.
use Rattle.std.specs.Prelude.{◌≡◌, refl, ◌⊎◌, Bool, true, false, ℕ, zero, suc, ◌+◌, ◌-◌, ◌*◌, ◌/◌, ◌^◌, ◌<◌, ◌≤◌, List, eqb, ltb, length, drop}
use Rattle.std.proofs.Common.{sym, ap, ap₂, ◌∙◌, inl, inr, arith, le-ltb, ltb-true, ltb-false}
use Rattle.std.proofs.Math.Nat as Nat
use Rattle.format.specs.Digits.{Below, number}
use Rattle.format.specs.Kind.{Kind, values}
use Rattle.format.specs.Kind as Kinds
use Rattle.format.specs.LeafLaws.{field_below}
use Rattle.format.specs.LiteralLaws.{read_cut_lem, read_value, read_fault}
use Rattle.format.specs.Codec as C
use Rattle.format.specs.FixedReading.{fixed}
use Rattle.format.specs.Script.{Script, ask}
use Rattle.format.specs.Format.{script_many}
use Rattle.format.specs.Pass.{Passed, stopped, pass}
use Rattle.format.specs.RunLaws.{values_at, length-many, Plain, run-through, run-cut, run_short, run-bad}
use Rattle.drawing.specs.Fields as F
use Rattle.drawing.specs.FlagLaws.{full_plain}
use Rattle.ways.specs.declared.Pass.{Pass}
use Rattle.ways.specs.Way.{Way, Exact, Blind, codec, route, source_units, target_units, value_at}
use Rattle.ways.specs.Passes.{refused, behind, Ready, refusal_of, stepped, behind_going, behind_gone, behind-refusal, refusal_ready, still_going, stepped_ready}
use Rattle.ways.specs.Steps.{CutRun}
use Rattle.ways.specs.StepLaws.{cut-number}
use Rattle.ways.specs.Runs.{Any, AllSmall, copied, Runs}

any-plain : (W : Way) (us : List ℕ) (bytes : ℕ) (k : Kind) → Any bytes k → Plain (route W) us (source_units W bytes) (target_units W bytes) (256 ^ bytes) k
any-plain W us bytes k a =
    record {
      wide = ap (source_units W) a.sized;
      far = ap (target_units W) a.sized;
      reads = λ at inside small.
          rw (← a.sized)
          (read_value W.source.base (λ s. source_units W (Kinds.size s)) W.source.meant W.source.missing W.source.meaningless us at k (value_at W (Kinds.size k.shape) us at) (rw a.sized inside)
          (sym (W.source.plain k.shape (value_at W (Kinds.size k.shape) us at) (full_plain k.shape bytes a.sized a.all)))
          (record { fits = rw (a.all, a.sized) small; faultless = a.faultless _ }));
    }

-- The fields that are whole end in the source.
pub fit_inside : (total at w : ℕ) → at ≤ total → at + (total - at) / w * w ≤ total
fit_inside total at w inside = let d : (total - at) / w * w ≤ total - at = Nat.div-mul-le_self (total - at) w in omega arith

-- Where refusals tell all, every field that is there is a value.
pub exact_small : (W : Way) → Exact W.source → (size : ℕ) (us : List ℕ) (at count : ℕ) → Below W.source.base us → at + count * source_units W size ≤ length us → AllSmall W size us at count
exact_small W exact size us at count below inside i less =
    let w = source_units W size in
    let more : suc i * w ≤ count * w = Nat.mul-le-mul_right w less in
    let small = field_below W.source.base us (at + i * w) w (omega arith) below in
    let holds = exact.holds size in
    omega arith

-- What is so of a run whatever the kind of its fields.
record Progress (W : Way) (size count : ℕ) (us m m' : List ℕ) (at to at' to' : ℕ) : Type 1 where
  runs : {S : Type 0} (kind : S → Kind) (next : S → ℕ → S) (any : (s : S) → Any size (kind s)) (s : S) (K : List ℕ → Script (Unit {0}))
      → behind W us m at to (script_many (λ t k. ask (kind t) k) next count s K) ≡ behind W us m' at' to' (K (values_at W.source.base (source_units W size) us count at))
  ready : Ready (length us) at' to'
  same_length : length m' ≡ length m

came_runs : {W : Way} {size count : ℕ} {us m m' : List ℕ} {at to : ℕ} {r : Pass} → Progress W size count us m m' at to r.at r.to → Runs W size count us m m' at to r
came_runs came =
    record {
      values = λ k any. record { runs = λ next. came.runs {S = Unit {0}} (λ s. k) (λ s x. s) (λ s. any) tt next; ready = came.ready; same_length = came.same_length };
      chars = λ two.
          record {
            carried =
                record {
                  runs = λ K. came.runs (λ left. F.string_char (eqb left 1)) (λ left c. left - 1) (λ s. record { sized = sym two; all = rw two; faultless = λ v. refl }) _ (λ vs. K);
                  ready = came.ready;
                  same_length = came.same_length;
                };
          };
    }

module _ (W : Way) {size : ℕ} (count : ℕ) {us m : List ℕ} {at to : ℕ} (ready : Ready (length us) at to) (least : 0 < size) where
  -- The run is there, and put into the memory.
  pub run-there : size ≤ 8 → at + count * source_units W size ≤ length us → AllSmall W size us at count → {m' : List ℕ} → m' ≡ copied W size count us at to m → Runs W size count us m m' at to (stepped W size count at to)
  run-there most inside small {m'} memory =
      let going = still_going W size count ready inside in
      let after = stepped_ready W size count ready inside least most in
      let short = ready.short in
      came_runs
      (record {
        runs = λ kind next any s K.
            behind_going W us m at to (script_many (λ t k. ask (kind t) k) next count s K) going
            ∙ run-through (route W) us (source_units W size) (target_units W size) (256 ^ size) kind next (λ s. any-plain W us size (kind s) (any s)) count s K at to m inside small
            ∙ ap (λ l. pass (route W) us (K (values_at W.source.base (source_units W size) us count at)) (at + count * source_units W size) (to + count * target_units W size) l) (sym memory)
            ∙ sym (behind_going W us m' (at + count * source_units W size) (to + count * target_units W size) (K (values_at W.source.base (source_units W size) us count at)) (omega arith));
        ready = after;
        same_length = ap length memory ∙ length-many W.source.base (source_units W size) W.target.base (target_units W size) us count at to m;
      })

  -- Where no refusal tells its place, a run that is cut or holds a number that is no value is refused wherever it begins.
  blind_came : Blind W.number W.place → {place : ℕ} → place ≤ length us → at < refused
      → ((S : Type 0) (kind : S → Kind) (next : S → ℕ → S) (any : (s : S) → Any size (kind s)) (s : S) (K : List ℕ → Script (Unit {0})) (c : Passed) → ((n a : ℕ) → stopped (W.number n) (W.place a) ≡ c) → pass (route W) us (script_many (λ t k. ask (kind t) k) next count s K) at to m ≡ c)
      → Progress W size count us m m at to (refusal_of W 2 place).at (refusal_of W 2 place).to
  blind_came blind {place} inside going comes =
      record {
        runs = λ kind next any s K.
            behind_going W us m at to (script_many (λ t k. ask (kind t) k) next count s K) going
            ∙ comes _ kind next any s K (stopped (W.number 2) (W.place place)) (λ n a. ap₂ stopped (blind.one_number n 2) (blind.one_place a place))
            ∙ sym (behind-refusal W us m 2 place (K (values_at W.source.base (source_units W size) us count at)));
        ready = refusal_ready W 2 place (length us) ready.short inside;
        same_length = refl;
      }

  -- The run is there, with a number that is no value.
  pub run-wide : at + count * source_units W size ≤ length us → Blind W.number W.place × ((i : ℕ) × (i < count) × (256 ^ size ≤ value_at W size us (at + i * source_units W size))) → Runs W size count us m m at to (refusal_of W 2 at)
  run-wide inside (blind, bad) =
      let w = source_units W size in
      let i = bad.0 in
      let going = still_going W size count ready inside in
      let more : suc i * w ≤ count * w = Nat.mul-le-mul_right w bad.1 in
      came_runs
      (blind_came blind (ready.inside going) going (λ S kind next any s K c same.
      run-bad (route W) us kind next c same w (λ s. ap (source_units W) (any s).sized) i count s K at to m bad.1 (ready.inside going)
      (λ s.
      let large : values (kind s).shape ≤ value_at W size us (at + i * w) = rw (any s).all bad.2 in
      let there : at + i * w + source_units W (Kinds.size (kind s).shape) ≤ length us = rw (any s).sized (omega arith) in
      wide_read (kind s) (at + i * w) (value_at W size us (at + i * w)) there
      (ap (λ n. value_at W n us (at + i * w)) (sym (any s).sized) ∙ sym (W.source.plain (kind s).shape (value_at W (Kinds.size (kind s).shape) us (at + i * w)) (full_plain (kind s).shape size (any s).sized (any s).all))) large W.source.meaningless refl)))
    where
      wide_read : (k : Kind) (place v : ℕ) → place + source_units W (Kinds.size k.shape) ≤ length us → v ≡ W.source.meant k.shape (value_at W (Kinds.size k.shape) us place) → values k.shape ≤ v → (x : ℕ) → W.source.meaningless ≡ x
          → (n : ℕ) × ((fixed (codec W.source)).read k (drop place us) ≡ C.refused n (drop place us))
      wide_read k place v inside is large zero e = let some = W.some in absurd (omega arith)
      wide_read k place v inside is large (suc x) e =
          (suc x, read_fault W.source.base (λ s. source_units W (Kinds.size s)) W.source.meant W.source.missing W.source.meaningless us place k v inside is x (rw (le-ltb v (values k.shape) large) e))

  -- There are fewer units than the run takes: it is refused at the first field that is not whole.
  pub run_missing : Below W.source.base us → length us < at + count * source_units W size → {r : Pass} → CutRun W size us at to r → Runs W size count us m m at to r
  run_missing below fewer {r} cut = by (ltb at refused) refl
    where
      w : ℕ
      w = source_units W size

      cut_at : at < refused → Exact W.source ⊎ Blind W.number W.place → Progress W size count us m m at to (refusal_of W 2 (at + (length us - at) / w * w)).at (refusal_of W 2 (at + (length us - at) / w * w)).to
      cut_at going (inl exact) =
          let inside = ready.inside going in
          let fit = fit_inside (length us) at w inside in
          record {
            runs = λ kind next any s K.
                behind_going W us m at to (script_many (λ t k. ask (kind t) k) next count s K) going
                ∙ run-cut (route W) us w (target_units W size) (256 ^ size) kind next (λ s. any-plain W us size (kind s) (any s)) W.source.missing
                (λ s place h. read_cut_lem W.source.base (λ s. source_units W (Kinds.size s)) W.source.meant W.source.missing W.source.meaningless us place (kind s) (rw (any s).sized h)) count s K at to m (W.source.least size least) inside (omega arith)
                (exact_small W exact size us at ((length us - at) / w) below fit)
                ∙ ap (λ n. stopped n (W.place (at + (length us - at) / w * w))) (cut-number W)
                ∙ sym (behind-refusal W us m 2 (at + (length us - at) / w * w) (K (values_at W.source.base w us count at)));
            ready = refusal_ready W 2 (at + (length us - at) / w * w) (length us) ready.short fit;
            same_length = refl;
          }
      cut_at going (inr blind) =
          let inside = ready.inside going in
          blind_came blind (fit_inside (length us) at w inside) going (λ S kind next any s K c same. run_short (route W) us kind next c same w (λ s. ap (source_units W) (any s).sized) count s K at to m inside (omega arith))

      by : (b : Bool) → ltb at refused ≡ b → Runs W size count us m m at to r
      by true e = let going = ltb-true at refused e in rw (cut.now going) (came_runs (cut_at going W.tells))
      by false e =
          let gone = ltb-false at refused e in
          rw (cut.before gone)
          (came_runs
          (record {
            runs = λ kind next any s K. behind_gone W us m m at to (script_many (λ t k. ask (kind t) k) next count s K) (K (values_at W.source.base w us count at)) gone;
            ready = ready;
            same_length = refl;
          }))
