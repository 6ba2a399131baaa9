-- Dashes: behind them there is an offset of the same kind, one field more.
use Rattle.std.specs.Prelude.{◌≡◌, refl, true, cond, ℕ, zero, suc, ◌+◌, List, [], ◌∷◌, ltb, eqb, length}
use Rattle.std.proofs.Common.{sym, ap, ◌∙◌, add-one, arith, lt-ltb}
use Rattle.std.proofs.Math.Path.{fun_ext}
use Rattle.format.specs.Kind.{Kind}
use Rattle.format.specs.Script.{Script, ask}
use Rattle.format.specs.Format.{one, script_many}
use Rattle.format.specs.Layout.{Layout, field, counted, when, ◌▸◌}
use Rattle.drawing.specs.Fields.{byte_in, float, dash_count}
use Rattle.ways.specs.declared.Pass.{Pass}
use Rattle.ways.specs.Way.{Way}
use Rattle.ways.specs.Passes.{behind}
use Rattle.ways.specs.Carries.{Laid, Valued}
use Rattle.ways.specs.Runs.{Runs}

-- The dashes of a line, and their offset where there is one.
abbrev pub dashes : Layout (List ℕ × ℕ)
dashes = counted dash_count (field float) ▸ λ ds. when (ltb 0 (length ds)) (field float) 0

-- A join, and the limit of a mitre.
abbrev pub join : Layout (ℕ × ℕ)
join = field (byte_in 0 2) ▸ λ is. when (eqb is 0) (field float) 0

-- n fields of one kind, and what comes behind them.
abbrev pub many_of : Kind → ℕ → (List ℕ → Script (Unit {0})) → Script (Unit {0})
many_of k n then = script_many {S = Unit {0}} (λ s behind. ask k behind) (λ s a. s) n tt then

-- There are n of them behind n of them.
many-behind : (k : Kind) (n : ℕ) (then : List ℕ → Script (Unit {0})) (K : Script (Unit {0}))
    → ((xs : List ℕ) → length xs ≡ n → then xs ≡ K)
    → many_of k n then ≡ many_of k n (λ xs. K)
many-behind k zero then K same = same [] refl
many-behind k (suc n) then K same = ap (ask k) (fun_ext (λ a. many-behind k n (λ xs. then (a ∷ xs)) K (λ xs e. same (a ∷ xs) (ap suc e))))

many_and_one : (k : Kind) (n : ℕ) (K : Script (Unit {0})) → many_of k n (λ xs. ask k (λ x. K)) ≡ many_of k (suc n) (λ xs. K)
many_and_one k zero K = refl
many_and_one k (suc n) K = ap (ask k) (fun_ext (λ a. many_and_one k n K))

above_zero : (m n : ℕ) → m ≡ suc n → ltb 0 m ≡ true
above_zero m n e = ap (λ k. ltb 0 k) e ∙ lt-ltb 0 (suc n) (omega arith)

-- So many dashes, and what comes behind them and their offset.
abbrev pub dashed : Kind → ℕ → Script (Unit {0}) → Script (Unit {0})
dashed k n K = many_of k n (λ xs. cond (ltb 0 (length xs)) (ask k (λ offset. K)) K)

pub dashes_and_offset : (k : Kind) (n : ℕ) (K : Script (Unit {0})) → (n ≡ 0 → ⊥) → dashed k n K ≡ many_of k (n + 1) (λ xs. K)
dashes_and_offset k zero K some = absurd (some refl)
dashes_and_offset k (suc n) K some =
    many-behind k (suc n) (λ xs. cond (ltb 0 (length xs)) (ask k (λ offset. K)) K) (ask k (λ offset. K))
    (λ xs e. ap (λ t. cond t (ask k (λ offset. K)) K) (above_zero (length xs) n e))
    ∙ many_and_one k (suc n) K
    ∙ ap (λ m. many_of k m (λ xs. K)) (sym (add-one (suc n)))

module _ {W : Way} {us m m' : List ℕ} {at to at' to' n : ℕ} (counts : Valued (one dash_count) n W us m m' at to at' to') where
  pub no_dashes : n ≡ 0 → Laid dashes.format W us m m' at to at' to'
  no_dashes none =
      record {
        carried =
            record {
              runs = λ K. counts.runs (λ n. dashed float n K) ∙ ap (λ n. behind W us m' at' to' (dashed float n K)) none;
              ready = counts.ready;
              same_length = counts.same_length;
            };
      }

  -- Dashes and their offset are one run.
  pub some_dashes : (n ≡ 0 → ⊥) → {m'' : List ℕ} {r : Pass} → Runs W 4 (n + 1) us m' m'' at' to' r → Laid dashes.format W us m m'' at to r.at r.to
  some_dashes some run =
      let floats = run.values float (record { sized = refl; all = refl; faultless = λ v. refl }) in
      record {
        carried =
            record {
              runs = λ K.
                  counts.runs (λ n. dashed float n K)
                  ∙ ap (behind W us m' at' to') (dashes_and_offset float n K some)
                  ∙ floats.runs (λ xs. K);
              ready = floats.ready;
              same_length = floats.same_length ∙ counts.same_length;
            };
      }
