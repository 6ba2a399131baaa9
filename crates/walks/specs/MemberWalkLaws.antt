-- The walk over a group's members, one after another.
use Rattle.std.specs.Prelude.{◌≡◌, refl, ℕ, zero, suc, ◌+◌, ◌-◌, ◌<◌, ◌≤◌, List, [], ◌∷◌, ◌++◌, length}
use Rattle.std.proofs.Common.{sym, ap, ◌∙◌, arith, append-nil, append_assoc, length-append}
use Rattle.format.specs.Layout.{repeat}
use Rattle.drawing.specs.Object.{Object}
use Rattle.drawing.specs.ObjectLayout.{object}
use Rattle.drawing.specs.TableDrawing.{Place, Walk, met, onward, walk_many, walk_object}
use Rattle.laws.specs.ObjectBytes.{bytes_of, many-bytes, many-append}
use Rattle.ways.specs.Passes.{refused}
use Rattle.rows.specs.declared.walked.Walked.{Walked}
use Rattle.ways.specs.Written.{Writes, nothing_written, both-written, same-written}
use Rattle.walks.specs.Walks.{place_at, Stands, Walks}
use Rattle.walks.specs.WalkingLaws.{walks-lost, walks_met, walked_over, walk_gone, onward_met, onward-same, onward-onward}

module _ (v deep parent n : ℕ) (cs ws m₀ : List ℕ) (at₀ to₀ first : ℕ) where
  abbrev pub each : Place → Walk Object
  each place = walk_object v deep parent place

  abbrev pub member_bytes : List Object → List ℕ
  member_bytes os = bytes_of (repeat n (object v deep)) os

  abbrev walk_all : Walk (List Object)
  walk_all = walk_many n each (place_at cs ws first at₀)

  -- So many are left, behind those that were met.
  pub record Going (left : ℕ) (m : List ℕ) (p : Walked) : Type 0 where
    pub done : List Object
    pub same : walk_many n each (place_at cs ws first at₀) ≡ onward (walk_many left each (place_at cs ws p.row p.at)) (λ os q. met (done ++ os) q)
    pub to_is : p.to ≡ to₀ + length (member_bytes done)
    pub written : Writes to₀ (member_bytes done) m₀ m
    pub stands : Stands cs ws p.row p.at p.to

  pub members_begin : Stands cs ws first at₀ to₀ → Going n m₀ (record { row = first; at = at₀; to = to₀ })
  members_begin stands =
      record { done = []; same = sym (onward_met walk_all); to_is = omega arith; written = nothing_written; stands = stands }

  module _ {left : ℕ} {m : List ℕ} {p : Walked} (so : Going left m p) where
    pub members_end : (0 < left → ⊥) → Walks member_bytes walk_all cs ws m₀ m to₀ p
    members_end none = by left so.same none
      where
        by : (k : ℕ) → walk_all ≡ onward (walk_many k each (place_at cs ws p.row p.at)) (λ os q. met (so.done ++ os) q) → (0 < k → ⊥) → Walks member_bytes walk_all cs ws m₀ m to₀ p
        by zero same none =
            walks_met (same ∙ ap (λ os. met os (place_at cs ws p.row p.at)) (append-nil so.done))
            (record { place_is = refl; to_is = so.to_is; written = so.written; next = so.stands })
        by (suc k) same none = absurd (none (omega arith))

    module _ (more : 0 < left) {m' : List ℕ} {r : Walked} (walks : Walks (bytes_of (object v deep)) (each (place_at cs ws p.row p.at)) cs ws m m' p.to r) where
      -- The members left, by the first of them.
      by_first : (k : ℕ) → suc k ≡ left → walk_all
          ≡ onward (onward (each (place_at cs ws p.row p.at)) (λ o q. onward (walk_many k each q) (λ os r. met (o ∷ os) r))) (λ os q. met (so.done ++ os) q)
      by_first k e = so.same ∙ ap (λ j. onward (walk_many j each (place_at cs ws p.row p.at)) (λ os q. met (so.done ++ os) q)) (sym e)

      pub members-lost : refused ≤ r.at → Walks member_bytes walk_all cs ws m₀ m' to₀ r
      members-lost gone =
          walks-lost
          (by_first (left - 1) (omega arith)
          ∙ ap (λ w. onward (onward w (λ o q. onward (walk_many (left - 1) each q) (λ os r. met (o ∷ os) r))) (λ os q. met (so.done ++ os) q)) (walk_gone walks gone))
          gone (walks.same_length ∙ so.written.same_length)

      pub members-again : r.at < refused → Going (left - 1) m' r
      members-again on =
          let over = walked_over walks on in
          let o = over.value in
          let more_bytes : member_bytes (so.done ++ o ∷ []) ≡ member_bytes so.done ++ bytes_of (object v deep) o =
          many-append (object v deep) n n n so.done (o ∷ []) ∙ ap (λ l. member_bytes so.done ++ l) (many-bytes (object v deep) n n o [] ∙ append-nil (bytes_of (object v deep) o)) in
          let sum = length-append (member_bytes so.done) (bytes_of (object v deep) o) in
          record {
            done = so.done ++ o ∷ [];
            same =
                by_first (left - 1) (omega arith)
                ∙ ap (λ w. onward (onward w (λ o q. onward (walk_many (left - 1) each q) (λ os r. met (o ∷ os) r))) (λ os q. met (so.done ++ os) q)) over.walk_is
                ∙ onward-onward (walk_many (left - 1) each (place_at cs ws r.row r.at)) (λ os r. met (o ∷ os) r) (λ os q. met (so.done ++ os) q)
                ∙ onward-same (walk_many (left - 1) each (place_at cs ws r.row r.at)) (λ os q. ap (λ l. met l q) (sym (append_assoc so.done (o ∷ []) os)));
            to_is = omega (arith, over.here.to_is, so.to_is, sum, ap length more_bytes);
            written = same-written (sym more_bytes) (both-written so.to_is so.written over.here.written);
            stands = over.here.next;
          }
