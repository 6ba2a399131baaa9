-- Fields that are known to be there and allowed, and only moved: what they come to, however many and of whatever kind they are.
use Rattle.std.specs.Prelude.{◌≡◌, List, [], ◌∷◌}
use Rattle.std.proofs.Math.Path.{refl, ap, ap₂}
use Rattle.std.proofs.Common.{sym, ◌∙◌}
use Prim.Native.Nat.{ℕ, zero, suc, ◌+◌, ◌*◌, ◌<◌, ◌≤◌}
use Rattle.std.proofs.Math.Nat as Nat
use native.Mathlib.Omega.{arith}
use Rattle.std.proofs.Math.ListN.{length}
use Rattle.format.specs.Digits.{digits, Below}
use Rattle.format.specs.Kind.{Kind, Allowed}
use Rattle.format.specs.Kind as Kinds
use Rattle.format.specs.LiteralLaws.{read_value}
use Rattle.format.specs.Script.{Script, ask}
use Rattle.format.specs.Format.{Format, one, script}
use Rattle.format.specs.Layout.{field, repeat}
use Rattle.format.specs.Pass.{put, onward, pass, ◌⟫◌}
use Rattle.format.specs.RunLaws.{put_many, length-many}
use Rattle.ways.specs.declared.Pass.{Pass}
use Rattle.ways.specs.Way.{Way, route, source_units, target_units, value_at}
use Rattle.ways.specs.Passes.{Ready, behind, stepped, behind_going, still_going, stepped_ready}
use Rattle.ways.specs.Carries.{Laid, Valued}
use Rattle.ways.specs.StepLaws.{There, there_below, good_asked}
use Rattle.ways.specs.Runs.{copied}

-- So many fields were moved.
pub record Moved (W : Way) (size count : ℕ) (us m m' : List ℕ) (at to : ℕ) (r : Pass) : Type 0 where
  pub is : r ≡ stepped W size count at to
  pub memory-is : m' ≡ copied W size count us at to m

-- So many fields, one behind the other, are allowed.
pub record AllAllowed (W : Way) (k : Kind) (size count : ℕ) (us : List ℕ) (at : ℕ) : Type 0 where
  pub each : (i : ℕ) → i < count → Allowed k (value_at W size us (at + i * source_units W size))

-- ---- how many were moved

module _ (W : Way) (size : ℕ) (us : List ℕ) where
  pub copied-both : (i j at to : ℕ) (m : List ℕ) → copied W size (i + j) us at to m ≡ copied W size j us (at + i * source_units W size) (to + i * target_units W size) (copied W size i us at to m)
  unfolding put_many
  copied-both zero j at to m =
      let here : at ≡ at + 0 * source_units W size = omega arith in
      let there : to ≡ to + 0 * target_units W size = omega arith in
      ap (λ n. copied W size n us at to m) (Nat.zero-add j) ∙ ap₂ (λ a b. copied W size j us a b m) here there
  copied-both (suc i) j at to m =
      let w = source_units W size in
      let u = target_units W size in
      let a : at + w + i * w ≡ at + suc i * w = omega arith in
      let b : to + u + i * u ≡ to + suc i * u = omega arith in
      ap (λ n. copied W size n us at to m) (Nat.suc-add i j)
      ∙ copied-both i j (at + w) (to + u) (put to (digits W.target.base u (value_at W size us at)) m)
      ∙ ap₂ (λ x y. copied W size j us x y (copied W size (suc i) us at to m)) a b

  module _ {at to : ℕ} {m : List ℕ} where
    pub moved_one : {m' : List ℕ} {r : Pass} → r ≡ stepped W size 1 at to → m' ≡ put to (digits W.target.base (target_units W size) (value_at W size us at)) m → Moved W size 1 us m m' at to r
    unfolding put_many
    moved_one is memory = record { is = is; memory-is = memory }

    pub moved_none : Moved W size 0 us m m at to (record { at = at; to = to })
    unfolding put_many
    moved_none =
        let here : at ≡ at + 0 * source_units W size = omega arith in
        let there : to ≡ to + 0 * target_units W size = omega arith in
        record { is = ap₂ (λ a b. record { at = a; to = b }) here there; memory-is = refl }

    -- Some, and then more.
    pub moved_both : {i j : ℕ} {q r : Pass} {m' m'' : List ℕ} → Moved W size i us m m' at to q → Moved W size j us m' m'' q.at q.to r → Moved W size (i + j) us m m'' at to r
    moved_both {i} {j} {q} {r} {m'} {m''} first second =
        let w = source_units W size in
        let u = target_units W size in
        let a : at + i * w + j * w ≡ at + (i + j) * w = omega arith in
        let b : to + i * u + j * u ≡ to + (i + j) * u = omega arith in
        let at-is : q.at ≡ at + i * w = ap (λ (q : Pass). q.at) first.is in
        let to_is : q.to ≡ to + i * u = ap (λ (q : Pass). q.to) first.is in
        record {
          is = second.is ∙ ap₂ (λ x y. stepped W size j x y) at-is to_is ∙ ap₂ (λ x y. record { at = x; to = y }) a b;
          memory-is = second.memory-is ∙ ap₂ (λ x y. copied W size j us x y m') at-is to_is ∙ ap (copied W size j us (at + i * w) (to + i * u)) first.memory-is ∙ sym (copied-both i j at to m);
        }

-- ---- what they come to

module _ (W : Way) (us : List ℕ) (k : Kind) (size : ℕ) (sized : Kinds.size k.shape ≡ size) (K : Script (Unit {0})) where
  through : (n at to : ℕ) (m : List ℕ) → at + n * source_units W size ≤ length us → AllAllowed W k size n us at
      → pass (route W) us (repeat n (field k) ⟫ K) at to m ≡ pass (route W) us K (at + n * source_units W size) (to + n * target_units W size) (copied W size n us at to m)
  unfolding put_many
  through zero at to m inside all = ap₂ (λ a b. pass (route W) us K a b m) (omega arith) (omega arith)
  through (suc n) at to m inside all =
      let w = source_units W size in
      let u = target_units W size in
      let v = value_at W size us at in
      let here : at + 0 * w ≡ at = omega arith in
      let shift : (i : ℕ) → at + suc i * w ≡ at + w + i * w = λ i. omega arith in
      let first : Allowed k v = rw here at (all.each 0 (omega arith)) in
      let there : at + w ≤ length us = omega arith in
      ap (λ o. onward (route W) at o (λ v. pass (route W) us (repeat n (field k) ⟫ K) (at + source_units W (Kinds.size k.shape)) (to + target_units W (Kinds.size k.shape)) (put to (digits W.target.base (target_units W (Kinds.size k.shape)) v) m)))
      (read_value W.source.base (λ s. source_units W (Kinds.size s)) W.source.meant W.source.missing W.source.meaningless us at k v (rw sized there) (sym (rw sized (W.source.own k.shape v first.fits))) first)
      ∙ ap (λ s. pass (route W) us (repeat n (field k) ⟫ K) (at + source_units W s) (to + target_units W s) (put to (digits W.target.base (target_units W s) v) m)) sized
      ∙ through n (at + w) (to + u) (put to (digits W.target.base u v) m) (omega arith) (record { each = λ i less. rw shift at (all.each (suc i) (omega arith)) })
      ∙ ap₂ (λ a b. pass (route W) us K a b (copied W size n us (at + w) (to + u) (put to (digits W.target.base u v) m))) (omega arith) (omega arith)

module _ {W : Way} (k : Kind) {size : ℕ} {us m m' : List ℕ} {at to : ℕ} {r : Pass} (sized : Kinds.size k.shape ≡ size) (least : 0 < size) (most : size ≤ 8) (ready : Ready (length us) at to) where
  -- The group's law.
  pub moved_laid : {count : ℕ} → at + count * source_units W size ≤ length us → AllAllowed W k size count us at → Moved W size count us m m' at to r → Laid (repeat count (field k)).format W us m m' at to r.at r.to
  moved_laid {count} inside all moved =
      let going = still_going W size count ready inside in
      let after = stepped_ready W size count ready inside least most in
      let short = ready.short in
      rw (moved.is, moved.memory-is)
      (record {
        carried =
            record {
              runs = λ K.
                  behind_going W us m at to (repeat count (field k) ⟫ K) going
                  ∙ through W us k size sized K count at to m inside all
                  ∙ sym (behind_going W us (copied W size count us at to m) (at + count * source_units W size) (to + count * target_units W size) K (omega arith));
              ready = after;
              same_length = length-many W.source.base (source_units W size) W.target.base (target_units W size) us count at to m;
            };
      })

  -- One field, whose value is known.
  pub moved_valued : There W us at size (value_at W size us at) → Allowed k (value_at W size us at) → Moved W size 1 us m m' at to r → Valued (one k) (value_at W size us at) W us m m' at to r.at r.to
  unfolding put_many
  moved_valued there allowed moved = rw moved.is (good_asked ready k sized there (W.source.own k.shape (value_at W size us at) allowed.fits) least most allowed moved.memory-is)

-- Memory that has no place stays as it is.
pub nowhere : (m m' : List ℕ) → length m ≡ 0 → length m' ≡ length m → m ≡ m'
nowhere [] [] none same = refl
nowhere [] (x ∷ m') none same = absurd (omega arith)
nowhere (x ∷ m) m' none same = absurd (omega arith)

-- Into no memory nothing is put.
pub moved_nowhere : (W : Way) (size count : ℕ) {us m : List ℕ} {at to : ℕ} {r : Pass} → length m ≡ 0 → r ≡ stepped W size count at to → Moved W size count us m m at to r
moved_nowhere W size count {us} {m} {at} {to} none is =
    record {
      is = is;
      memory-is = nowhere m (copied W size count us at to m) none (length-many W.source.base (source_units W size) W.target.base (target_units W size) us count at to m);
    }

-- ---- a letter, and what it tells

-- A char that is known to be there, and then the fields of a layout: whatever kind of letter allows it and tells these fields.
pub record Led (W : Way) {A : Type 0} {P : A → Type 0} (f : Format A P) (us m m' : List ℕ) (at to : ℕ) (r : Pass) : Type 0 where
  pub runs : (k : Kind) → Kinds.size k.shape ≡ 2 → Allowed k (value_at W 2 us at) → (next : ℕ → Script (Unit {0})) (K : Script (Unit {0})) → next (value_at W 2 us at) ≡ script f (λ a. K)
      → behind W us m at to (ask k next) ≡ behind W us m' r.at r.to K
  pub ready : Ready (length us) r.at r.to
  pub same_length : length m' ≡ length m

pub led : {W : Way} {A : Type 0} {P : A → Type 0} {f : Format A P} {us m m' m'' : List ℕ} {at to : ℕ} {q r : Pass} → Below W.source.base us → Ready (length us) at to → at + source_units W 2 ≤ length us
    → Moved W 2 1 us m m' at to q → Laid f W us m' m'' q.at q.to r.at r.to → Led W f us m m'' at to r
led {W} {f = f} {us} {m} {m'} {m''} {at} {to} {q} {r} below ready inside moved rest =
    record {
      runs = λ k sized allowed next K tells.
          (moved_valued k sized (omega arith) (omega arith) ready (there_below W us at 2 below inside) allowed moved).runs next
          ∙ ap (behind W us m' q.at q.to) tells
          ∙ rest.carried.runs K;
      ready = rest.carried.ready;
      same_length = rest.carried.same_length ∙ ap length moved.memory-is ∙ length-many W.source.base (source_units W 2) W.target.base (target_units W 2) us 1 at to m;
    }

-- How far one letter leads.
pub moved_ready : {W : Way} (size count : ℕ) {total at to : ℕ} {us m m' : List ℕ} {r : Pass} → Ready total at to → at + count * source_units W size ≤ total → 0 < size → size ≤ 8 → Moved W size count us m m' at to r → Ready total r.at r.to
moved_ready {W} size count ready inside least most moved = rw moved.is (stepped_ready W size count ready inside least most)
