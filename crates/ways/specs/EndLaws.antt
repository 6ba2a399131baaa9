-- An object's end that is plain: the flow frame flag and the description's length are known to be there and 0, and only moved.
use Rattle.std.specs.Prelude.{◌≡◌, refl, ℕ, ◌+◌, ◌*◌, ◌<◌, ◌≤◌, List, length}
use Rattle.std.proofs.Common.{sym, ap, ap₂, subst, ◌∙◌, arith, le-leb}
use Rattle.std.proofs.lemmas.Bool.{lt-leb}
use Rattle.format.specs.Digits.{Below}
use Rattle.format.specs.Kind.{Kind, Allowed}
use Rattle.format.specs.Kind as Kinds
use Rattle.format.specs.Format.{one}
use Rattle.drawing.specs.Fields as F
use Rattle.drawing.specs.LeafLayout.{object_end}
use Rattle.ways.specs.declared.Pass.{Pass}
use Rattle.ways.specs.Way.{Way, source_units, target_units, value_at}
use Rattle.ways.specs.Passes.{Ready, ahead_of}
use Rattle.ways.specs.Carries.{Laid, Valued}
use Rattle.ways.specs.LayoutLaws.{laid, told, then, else, nothing-laid, came_nowhere}
use Rattle.ways.specs.StepLaws.{there_below}
use Rattle.ways.specs.Moves.{Moved, moved_valued, moved_nowhere}

-- A field of so many bytes is there, and 0.
pub record ZeroAt (W : Way) (size : ℕ) (us : List ℕ) (at : ℕ) : Type 0 where
  pub inside : at + source_units W size ≤ length us
  pub is : value_at W size us at ≡ 0

-- Behind a field that was moved.
pub zero-behind : {W : Way} {size next at to : ℕ} {us m m' : List ℕ} {q : Pass} → Moved W size 1 us m m' at to q → ZeroAt W next us (at + source_units W size) → ZeroAt W next us q.at
zero-behind {W} {size} {next} {at} {us = us} {q = q} moved zero =
    let here : q.at ≡ at + 1 * source_units W size = ap (λ (q : Pass). q.at) moved.is in
    let once : at + source_units W size ≡ q.at = omega (arith, here) in
    subst (ZeroAt W next us) once zero

module _ {W : Way} {us : List ℕ} (below : Below W.source.base us) where
  -- A field that is 0 and was moved is one of any kind that allows 0.
  zero-valued : (k : Kind) {size : ℕ} {m m' : List ℕ} {at to : ℕ} {r : Pass} → Kinds.size k.shape ≡ size → 0 < size → size ≤ 8 → Allowed k 0 → Ready (length us) at to → ZeroAt W size us at → Moved W size 1 us m m' at to r
      → Valued (one k) 0 W us m m' at to r.at r.to
  zero-valued k {size} {m} {m'} {at} {to} {r} sized least most allowed ready zero moved =
      subst (λ v. Valued (one k) v W us m m' at to r.at r.to) zero.is
      (moved_valued k sized least most ready (there_below W us at size below zero.inside) (subst (Allowed k) (sym zero.is) allowed) moved)

  module _ {m m' : List ℕ} {at to : ℕ} {q : Pass} (ready : Ready (length us) at to) (flow : ZeroAt W 1 us at) (moved : Moved W 1 1 us m m' at to q) where
    flagged : Valued (one F.flow_flag) 0 W us m m' at to q.at q.to
    flagged = zero-valued F.flow_flag refl (omega arith) (omega arith) (record { fits = omega arith; faultless = refl }) ready flow moved

    -- Below 1.2 the flag is all.
    pub older_end : (version : ℕ) → version < 2 → Laid (object_end version).format W us m m' at to q.at q.to
    older_end version old = laid (told flagged (laid (else (lt-leb 2 version old) (nothing-laid flagged.ready))))

    -- From 1.2 on there is a description of no chars.
    pub newer_end : (version : ℕ) {m'' : List ℕ} {r : Pass} → 2 ≤ version → ZeroAt W 4 us (at + source_units W 1) → Moved W 4 1 us m' m'' q.at q.to r → Laid (object_end version).format W us m m'' at to r.at r.to
    newer_end version new empty more =
        let described = zero-valued (F.string_length 0) refl (omega arith) (omega arith) (record { fits = omega arith; faultless = refl }) flagged.ready (zero-behind moved empty) more in
        laid (told flagged (laid (then (le-leb 2 version new) (laid (told described (record { carried = came_nowhere described.ready }))))))

  -- Into no memory both are one step.
  pub newer_end_nowhere : (version : ℕ) {m : List ℕ} {at to : ℕ} {r : Pass} → Ready (length us) at to → length m ≡ 0 → 2 ≤ version → ZeroAt W 1 us at → ZeroAt W 4 us (at + source_units W 1)
      → W.source.pick 5 2 ≡ source_units W 1 + source_units W 4 → W.target.pick 5 2 ≡ target_units W 1 + target_units W 4 → r ≡ ahead_of W 5 2 at to → Laid (object_end version).format W us m m at to r.at r.to
  newer_end_nowhere version {at = at} {to} {r} ready none new flow empty source target is =
      let here : at + W.source.pick 5 2 ≡ at + 1 * source_units W 1 + 1 * source_units W 4 = omega (arith, source) in
      let there : to + W.target.pick 5 2 ≡ to + 1 * target_units W 1 + 1 * target_units W 4 = omega (arith, target) in
      newer_end ready flow (moved_nowhere W 1 1 none refl) version new empty (moved_nowhere W 4 1 none (is ∙ ap₂ (λ a b. record { at = a; to = b }) here there))
