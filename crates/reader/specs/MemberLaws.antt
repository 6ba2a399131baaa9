-- The laws of members, one after another: those that were met stand in the table, and what is left comes to the same.
use Rattle.std.specs.Prelude.{◌≡◌, refl, ℕ, zero, suc, ◌+◌, ◌-◌, ◌*◌, ◌<◌, ◌≤◌, List, [], ◌∷◌, ◌++◌, length, drop}
use Rattle.std.proofs.Common.{sym, ap, ap₂, ◌∙◌, arith, append-nil, append_assoc, length-append}
use Rattle.std.proofs.Math.Nat as Nat
use Rattle.format.specs.Codec.{found, and_then}
use Rattle.format.specs.Layout.{repeat}
use Rattle.format.specs.Parse.{parse}
use Rattle.format.specs.ParsingLaws.{and_then_and_then, and_then_found, and_then_same, parse-threaded}
use Rattle.drawing.specs.Reading.{bytes}
use Rattle.drawing.specs.Object.{Object, of_list}
use Rattle.drawing.specs.ObjectLayout.{object}
use Rattle.drawing.specs.Table.{row_width, rows, rows_all, bodies, bodies_all, contents, contents_all}
use Rattle.laws.specs.OrderLaws.{contents-length-all}
use Rattle.ways.specs.Passes as Passes
use Rattle.ways.specs.Written.{nothing_written, both-written, same-written}
use Rattle.rows.specs.declared.walked.Walked.{Walked}
use Rattle.reader.specs.Descents.{Stands, Met, members_part, object_at, members_at, DescendsObject, DescendsMembers}
use Rattle.reader.specs.BodyLaws.{descends_over, descends_gone, descends_met, descends_stopped}

-- ---- one more behind some

rows_more : (os : List Object) (o : Object) → rows_all (of_list (os ++ o ∷ [])) ≡ rows_all (of_list os) + rows o
rows_more [] o = omega arith
rows_more (x ∷ os) o = let more = rows_more os o in omega arith

bodies_more : (os : List Object) (o : Object) (v : ℕ) → bodies_all (of_list (os ++ o ∷ [])) v ≡ bodies_all (of_list os) v ++ bodies o v
bodies_more [] o v = append-nil (bodies o v)
bodies_more (x ∷ os) o v = ap (λ l. bodies x v ++ l) (bodies_more os o v) ∙ sym (append_assoc (bodies x v) (bodies_all (of_list os) v) (bodies o v))

contents_more : (os : List Object) (o : Object) (v parent own at : ℕ)
    → contents_all (of_list (os ++ o ∷ [])) v parent own at ≡ contents_all (of_list os) v parent own at ++ contents o v parent (own + rows_all (of_list os)) (at + length (bodies_all (of_list os) v))
contents_more [] o v parent own at =
    append-nil (contents o v parent own at) ∙ ap₂ (λ i j. contents o v parent i j) (sym (Nat.add-zero own)) (sym (Nat.add-zero at))
contents_more (x ∷ os) o v parent own at =
    let next = own + rows x in
    let start = at + length (bodies x v) in
    let own_is : next + rows_all (of_list os) ≡ own + (rows x + rows_all (of_list os)) = omega arith in
    let sum = length-append (bodies x v) (bodies_all (of_list os) v) in
    let at-is : start + length (bodies_all (of_list os) v) ≡ at + length (bodies x v ++ bodies_all (of_list os) v) = omega arith in
    ap (λ l. contents x v parent own at ++ l) (contents_more os o v parent next start ∙ ap₂ (λ i j. contents_all (of_list os) v parent next start ++ contents o v parent i j) own_is at-is)
    ∙ sym (append_assoc (contents x v parent own at) (contents_all (of_list os) v parent next start) (contents o v parent (own + (rows x + rows_all (of_list os))) (at + length (bodies x v ++ bodies_all (of_list os) v))))

-- ---- the loop

module _ (file : List ℕ) (v deep parent n from first start : ℕ) (cs₀ bs₀ : List ℕ) where
  -- So many are left, behind those that were met.
  pub record Going (left : ℕ) (cs bs : List ℕ) (p : Walked) : Type 0 where
    pub done : List Object
    pub same : members_at file v deep n from ≡ and_then (members_at file v deep left p.at) (λ os rest. found (done ++ os) rest)
    pub met : Met (members_part v parent first start done) file cs₀ bs₀ cs bs from first start p (drop p.at file)

  pub members_begin : Stands (length file) from first start → Going n cs₀ bs₀ (record { row = first; at = from; to = start })
  members_begin stands =
      record {
        done = [];
        same = sym (and_then_found (members_at file v deep n from));
        met =
            record {
              rest-is = refl;
              inside = stands.inside;
              row_is = sym (Nat.add-zero first);
              to_is = sym (Nat.add-zero start);
              rows_written = nothing_written;
              words-written = nothing_written;
              few-rows = omega arith;
              few_words = omega arith;
            };
      }

  module _ (stands : Stands (length file) from first start) {left : ℕ} {cs bs : List ℕ} {p : Walked} (so : Going left cs bs p) where
    pub members_stand : Stands (length file) p.at p.row p.to
    members_stand =
        record {
          short = stands.short;
          inside = so.met.inside;
          few-rows = omega (arith, so.met.few-rows, stands.few-rows);
          few_words = omega (arith, so.met.few_words, stands.few_words);
        }

    pub members_end : (0 < left → ⊥) → DescendsMembers file v deep parent n from first start cs₀ bs₀ cs bs p
    members_end none = by left so.same none
      where
        by : (k : ℕ) → members_at file v deep n from ≡ and_then (members_at file v deep k p.at) (λ os rest. found (so.done ++ os) rest) → (0 < k → ⊥) → DescendsMembers file v deep parent n from first start cs₀ bs₀ cs bs p
        by zero same none = descends_met (same ∙ ap (λ os. found os (drop p.at file)) (append-nil so.done)) so.met
        by (suc k) same none = absurd (none (omega arith))

    module _ (more : 0 < left) {cs' bs' : List ℕ} {r : Walked} (descends : DescendsObject file v deep parent p.at p.row p.to cs bs cs' bs' r) where
      -- The members left, by the first of them.
      by_first : members_at file v deep n from
          ≡ and_then (object_at file v deep p.at) (λ o rest. and_then (parse bytes (repeat (left - 1) (object v deep)) rest) (λ os rest₂. found (so.done ++ (o ∷ os)) rest₂))
      by_first =
          let count : left ≡ suc (left - 1) = omega arith in
          so.same
          ∙ ap (λ k. and_then (members_at file v deep k p.at) (λ os rest. found (so.done ++ os) rest)) count
          ∙ ap (λ o. and_then o (λ os rest. found (so.done ++ os) rest)) (parse-threaded bytes (left - 1) (λ s. object v deep) (λ s a. s) tt (drop p.at file))
          ∙ and_then_and_then (object_at file v deep p.at) (λ o rest. and_then (parse bytes (repeat (left - 1) (object v deep)) rest) (λ os rest₂. found (o ∷ os) rest₂)) (λ os rest. found (so.done ++ os) rest)
          ∙ and_then_same (object_at file v deep p.at) (λ o rest. and_then_and_then (parse bytes (repeat (left - 1) (object v deep)) rest) (λ os rest₂. found (o ∷ os) rest₂) (λ os rest. found (so.done ++ os) rest))

      pub members-stop : Passes.refused ≤ r.at → DescendsMembers file v deep parent n from first start cs₀ bs₀ cs' bs' r
      members-stop off =
          let g = descends_gone stands.short descends off in
          descends_stopped
          (by_first ∙ ap (λ o. and_then o (λ o rest. and_then (parse bytes (repeat (left - 1) (object v deep)) rest) (λ os rest₂. found (so.done ++ (o ∷ os)) rest₂))) g.parsed)
          g.stopped

      pub members-again : r.at < Passes.refused → Going (left - 1) cs' bs' r
      members-again on =
          let over = descends_over stands.short descends on in
          let o = over.value in
          let done = so.done in
          let here = over.here in
          let before = so.met in
          let B = bodies_all (of_list done) v in
          let sum = length-append B (bodies o v) in
          let long = ap length (bodies_more done o v) in
          let count = rows_more done o in
          let own = contents-length-all (of_list done) v parent first start in
          let place : row_width * p.row ≡ row_width * first + length (contents_all (of_list done) v parent first start) = omega (arith, before.row_is, own) in
          let contents-are : contents_all (of_list done) v parent first start ++ contents o v parent p.row p.to ≡ contents_all (of_list (done ++ o ∷ [])) v parent first start =
          ap₂ (λ i j. contents_all (of_list done) v parent first start ++ contents o v parent i j) before.row_is before.to_is ∙ sym (contents_more done o v parent first start) in
          record {
            done = done ++ o ∷ [];
            same =
                by_first
                ∙ ap (λ o. and_then o (λ o rest. and_then (parse bytes (repeat (left - 1) (object v deep)) rest) (λ os rest₂. found (done ++ (o ∷ os)) rest₂))) over.parsed
                ∙ and_then_same (members_at file v deep (left - 1) r.at) (λ os rest. ap (λ l. found l rest) (sym (append_assoc done (o ∷ []) os)));
            met =
                record {
                  rest-is = refl;
                  inside = here.inside;
                  row_is = omega (arith, here.row_is, before.row_is, count);
                  to_is = omega (arith, here.to_is, before.to_is, sum, long);
                  rows_written = same-written contents-are (both-written place before.rows_written here.rows_written);
                  words-written = same-written (sym (bodies_more done o v)) (both-written before.to_is before.words-written here.words-written);
                  few-rows = omega (arith, here.few-rows, before.few-rows);
                  few_words = omega (arith, here.few_words, before.few_words);
                };
          }
