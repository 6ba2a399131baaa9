-- What is left of the groups that are open: a group ends, an object begins, a group opens.
use Rattle.std.specs.Prelude.{◌≡◌, refl, Bool, true, false, cond, List, [], ◌∷◌, length, get_or, set}
use Rattle.std.proofs.Math.Path.{sym, ap, fun_ext}
use Rattle.std.proofs.Common.{ap₂, ◌∙◌, arith, get_or-set_same, get_or-set_other}
use Prim.Native.Nat.{ℕ, zero, suc, ◌+◌, ◌-◌, ◌<◌, ◌≤◌}
use Rattle.std.proofs.Math.Nat as Nat
use Rattle.format.specs.Script.{Script, end, ask}
use Rattle.format.specs.Format.{script}
use Rattle.format.specs.Layout.{repeat}
use Rattle.format.specs.ParsingLaws.{followed}
use Rattle.drawing.specs.Limits.{depth_limit}
use Rattle.drawing.specs.Fields.{member_count, object_id}
use Rattle.drawing.specs.Object.{Object, leaf, group, Objects, of_list}
use Rattle.drawing.specs.LeafLayout.{is_leaf, leaf_body, object_end}
use Rattle.drawing.specs.ObjectLayout.{object, group_body}
use Rattle.drawing.specs.Table.{rows, rows_all}
use Rattle.pieces.specs.Parts.{groups, opening}

-- The number at a place that is not looked at does not matter.
groups-set : (v : ℕ) (ms : List ℕ) (k m d r : ℕ) → d ≤ k → groups v (set ms k m) d r ≡ groups v ms d r
unfolding groups
groups-set v ms k m zero r below = refl
groups-set v ms k m (suc d) r below =
    ap (λ n. script (repeat n (object v (depth_limit - suc d))).format (λ os. script (object_end v).format (λ t. groups v (set ms k m) d (r + rows_all (of_list os))))) (get_or-set_other ms k d m 0 (λ e. absurd (omega arith)))
    ∙ ap (λ K. script (repeat (get_or ms d 0) (object v (depth_limit - suc d))).format K)
    (fun_ext (λ os. ap (λ K. script (object_end v).format K) (fun_ext (λ t. groups-set v ms k m d (r + rows_all (of_list os)) (omega arith)))))

module _ (v : ℕ) (ms : List ℕ) (d r : ℕ) where
  -- No member is left: the group's end comes next.
  pub group_ends : get_or ms d 0 ≡ 0 → groups v ms (suc d) r ≡ script (object_end v).format (λ t. groups v ms d r)
  unfolding groups
  group_ends none_left =
      ap (λ n. script (repeat n (object v (depth_limit - suc d))).format (λ os. script (object_end v).format (λ t. groups v ms d (r + rows_all (of_list os))))) none_left
      ∙ ap (λ n. script (object_end v).format (λ t. groups v ms d n)) (Nat.add-zero r)

  -- One of the members that are left.
  pub object_next : {m : ℕ} → get_or ms d 0 ≡ suc m → d < length ms → groups v ms (suc d) r ≡ script (object v (depth_limit - suc d)).format (λ o. groups v (set ms d m) (suc d) (r + rows o))
  unfolding groups
  object_next {m} some_left there =
      ap (λ n. script (repeat n (object v (depth_limit - suc d))).format (λ os. script (object_end v).format (λ t. groups v ms d (r + rows_all (of_list os))))) some_left
      ∙ ap (λ K. script (object v (depth_limit - suc d)).format K) (fun_ext (λ o. others o))
    where
      others : (o : Object)
          → script (repeat m (object v (depth_limit - suc d))).format (λ os. script (object_end v).format (λ t. groups v ms d (r + (rows o + rows_all (of_list os)))))
          ≡ script (repeat (get_or (set ms d m) d 0) (object v (depth_limit - suc d))).format (λ os. script (object_end v).format (λ t. groups v (set ms d m) d (r + rows o + rows_all (of_list os))))
      others o =
          ap (λ K. script (repeat m (object v (depth_limit - suc d))).format K)
          (fun_ext (λ os. ap (λ K. script (object_end v).format K) (fun_ext (λ t.
          sym (groups-set v ms d m d (r + (rows o + rows_all (of_list os))) (Nat.le_refl d))
          ∙ ap (groups v (set ms d m) d) (sym (Nat.add_assoc r (rows o) (rows_all (of_list os))))))))
          ∙ ap (λ n. script (repeat n (object v (depth_limit - suc d))).format (λ os. script (object_end v).format (λ t. groups v (set ms d m) d (r + rows o + rows_all (of_list os))))) (sym (get_or-set_same ms d m 0 there))

-- ---- an object, by its id

-- What follows an id, and then goes on by the number of rows.
module _ (v : ℕ) (K : ℕ → Script ℕ) where
  abbrev leaf_then : ℕ → Script ℕ
  leaf_then c = script (leaf_body v c).format (λ t. K 1)

  pub object-alone : script (object v zero).format (λ o. K (rows o)) ≡ ask (object_id (is_leaf v) false) leaf_then
  object-alone = refl

  pub object_nested : (deep : ℕ)
      → script (object v (suc deep)).format (λ o. K (rows o))
      ≡ ask (object_id (is_leaf v) true) (λ c. cond (is_leaf v c) (leaf_then c)
      (ask member_count (λ n. script (repeat n (object v deep)).format (λ os. script (object_end v).format (λ t. K (suc (rows_all (of_list os))))))))
  object_nested deep = refl

-- A group that opens, with its count as one more number of members left.
pub count-opens : (v : ℕ) (ms : List ℕ) (d r n : ℕ) → d < length ms → opening v ms d r n ≡ groups v (set ms d n) (suc d) r
unfolding groups
count-opens v ms d r n there =
    ap (λ K. script (repeat n (object v (depth_limit - suc d))).format K)
    (fun_ext (λ os. ap (λ K. script (object_end v).format K) (fun_ext (λ t. sym (groups-set v ms d n d (r + rows_all (of_list os)) (Nat.le_refl d))))))
    ∙ ap (λ m. script (repeat m (object v (depth_limit - suc d))).format (λ os. script (object_end v).format (λ t. groups v (set ms d n) d (r + rows_all (of_list os))))) (sym (get_or-set_same ms d n 0 there))

-- A group among the members of another, behind its count.
pub group_opens : (v : ℕ) (ms : List ℕ) (d r n deep : ℕ) → depth_limit - suc d ≡ suc deep
    → script (repeat n (object v deep)).format (λ os. script (object_end v).format (λ t. groups v ms (suc d) (r + suc (rows_all (of_list os))))) ≡ opening v ms (suc d) (r + 1) n
group_opens v ms d r n deep deeper =
    ap (λ x. script (repeat n (object v x)).format (λ os. script (object_end v).format (λ t. groups v ms (suc d) (r + suc (rows_all (of_list os)))))) depth_is
    ∙ ap (λ K. script (repeat n (object v (depth_limit - suc (suc d)))).format K)
    (fun_ext (λ os. ap (λ K. script (object_end v).format K) (fun_ext (λ t. ap (groups v ms (suc d)) (one_more (rows_all (of_list os)))))))
  where
    depth_is : deep ≡ depth_limit - suc (suc d)
    depth_is = omega arith

    one_more : (x : ℕ) → r + suc x ≡ r + 1 + x
    one_more x = omega arith

-- The outer group, behind its id and its count.
pub outer-opens : (v : ℕ) (ms : List ℕ) (n : ℕ)
    → script (repeat n (object v (depth_limit - 1))).format (λ os. script (object_end v).format (λ t. end (suc (rows_all (of_list os))))) ≡ opening v ms 0 1 n
unfolding groups
outer-opens v ms n =
    ap (λ K. script (repeat n (object v (depth_limit - 1))).format K) (fun_ext (λ os. ap (λ K. script (object_end v).format K) (fun_ext (λ t. ap (λ x. end x) (one_more (rows_all (of_list os)))))))
  where
    one_more : (x : ℕ) → suc x ≡ 1 + x
    one_more x = omega arith

-- Only the members left of the groups that are open matter.
pub groups_agree : (v : ℕ) (ms ms' : List ℕ) (d r : ℕ) → ((i : ℕ) → i < d → get_or ms i 0 ≡ get_or ms' i 0) → groups v ms d r ≡ groups v ms' d r
unfolding groups
groups_agree v ms ms' zero r same = refl
groups_agree v ms ms' (suc d) r same =
    ap (λ n. script (repeat n (object v (depth_limit - suc d))).format (λ os. script (object_end v).format (λ t. groups v ms d (r + rows_all (of_list os))))) (same d (omega arith))
    ∙ ap (λ K. script (repeat (get_or ms' d 0) (object v (depth_limit - suc d))).format K)
    (fun_ext (λ os. ap (λ K. script (object_end v).format K) (fun_ext (λ t. groups_agree v ms ms' d (r + rows_all (of_list os)) (λ i less. same i (omega arith))))))
