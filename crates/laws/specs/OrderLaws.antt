-- The laws of opening order: how many rows an object has, and that parent numbers lead outwards through the groups around it.
use Rattle.std.specs.Prelude.{◌≡◌, refl, ℕ, zero, suc, ◌+◌, ◌*◌, ◌<◌, List, [], ◌∷◌, ◌++◌, length, get_or, drop}
use Rattle.std.proofs.Common.{sym, ap, ◌∙◌, zero-add, add-zero, arith, append-nil, append_assoc, length-append, drop-drop, get_or-drop}
use Rattle.std.proofs.Math.Seq.{drop-append_seam}
use Rattle.drawing.specs.Object.{Object, leaf, group, Objects, none, more}
use Rattle.drawing.specs.Drawing.{Drawing, outer}
use Rattle.drawing.specs.Table.{rows, rows_all, bodies, contents, contents_all, contents_of, parent_in}
use Rattle.drawing.specs.Order.{preorder, preorder_all, ancestors, ancestors_all, groups_around, ParentChain}

-- ---- counts

mutual
  pub rows-preorder : (o : Object) → length (preorder o) ≡ rows o
  rows-preorder (leaf l d) = refl
  rows-preorder (group os d) = ap suc (rows-preorder-all os)

  pub rows-preorder-all : (os : Objects) → length (preorder_all os) ≡ rows_all os
  rows-preorder-all none = refl
  rows-preorder-all (more o os) = rw (length-append, rows-preorder o, rows-preorder-all os)

mutual
  pub rows-ancestors : (o : Object) (own : ℕ) (around : List ℕ) → length (ancestors o own around) ≡ rows o
  rows-ancestors (leaf l d) own around = refl
  rows-ancestors (group os d) own around = ap suc (rows-ancestors-all os (suc own) (own ∷ around))

  pub rows-ancestors-all : (os : Objects) (own : ℕ) (around : List ℕ) → length (ancestors_all os own around) ≡ rows_all os
  rows-ancestors-all none own around = refl
  rows-ancestors-all (more o os) own around = rw (length-append, rows-ancestors o own around, rows-ancestors-all os (own + rows o) around)

mutual
  pub contents-length : (o : Object) (v parent own at : ℕ) → length (contents o v parent own at) ≡ 4 * rows o
  contents-length (leaf l d) v parent own at = refl
  contents-length (group os d) v parent own at = let h = contents-length-all os v own (suc own) at in omega arith

  pub contents-length-all : (os : Objects) (v parent own at : ℕ) → length (contents_all os v parent own at) ≡ 4 * rows_all os
  contents-length-all none v parent own at = refl
  contents-length-all (more o os) v parent own at =
      let h = contents-length o v parent own at in
      let i = contents-length-all os v parent (own + rows o) (at + length (bodies o v)) in
      simp length-append (omega arith)

-- ---- parents

-- What holds of each place of a list, of which the first has this number.
abbrev pub Each : {A : Type 0} → (ℕ → A → Type 0) → ℕ → List A → Type 0
Each P n [] = Unit {0}
Each P n (x ∷ xs) = P n x × Each P (suc n) xs

pub shift : (n i : ℕ) → n + suc i ≡ suc n + i
shift n i = omega arith

pub each_append : {A : Type 0} (P : ℕ → A → Type 0) (xs ys : List A) (n : ℕ) → Each P n xs → Each P (n + length xs) ys → Each P n (xs ++ ys)
each_append P [] ys n p q = rw add-zero at q
each_append P (x ∷ xs) ys n p q = (p.0, each_append P xs ys (suc n) p.1 (rw shift at q))

pub each_at : {A : Type 0} (P : ℕ → A → Type 0) (xs : List A) (n i : ℕ) (z : A) → i < length xs → Each P n xs → P (n + i) (get_or xs i z)
each_at P [] n i z h p = absurd (omega arith)
each_at P (x ∷ xs) n zero z h p = rw add-zero p.0
each_at P (x ∷ xs) n (suc i) z h p = rw shift (each_at P xs (suc n) i z (omega arith) p.1)

-- A row of contents: what is met from it on, and that its parent is before it.
record Led (C : List ℕ) (r : ℕ) (around : List ℕ) : Type 0 where
  met : ParentChain C r around
  before : 0 < r → parent_in C r < r

module _ (v : ℕ) (C : List ℕ) where
  -- What comes behind the words of some rows, where these stand at their place.
  pub beyond : (xs ys : List ℕ) (own next : ℕ) → 4 * own + length xs ≡ 4 * next → drop (4 * own) C ≡ xs ++ ys → drop (4 * next) C ≡ ys
  beyond xs ys own next l e = rw (← l, ← drop-drop, e) (drop-append_seam xs ys)

  -- One step outwards, from a row to its parent.
  step : {kind p start size own : ℕ} {rest ps : List ℕ} → ParentChain C p ps → p < own
      → drop (4 * own) C ≡ kind ∷ p ∷ start ∷ size ∷ rest → Led C own (p ∷ ps)
  step {p = p} {own = own} m h e =
      let f : parent_in C own ≡ p = sym (get_or-drop (4 * own) C 1 0) ∙ ap (λ (l : List ℕ). get_or l 1 0) e in
      record { met = (omega arith, f, m); before = λ k. omega arith }

  -- Where an object's rows stand at their place, and from its parent's row all is met, each of its rows is led.
  mutual
    led : (o : Object) (p own at : ℕ) (behind ps : List ℕ) → ParentChain C p ps → p < own
        → drop (4 * own) C ≡ contents o v p own at ++ behind → Each (Led C) own (ancestors o own (p ∷ ps))
    led (leaf l d) p own at behind ps m h e = (step m h e, tt)
    led (group os d) p own at behind ps m h e =
        let s : Led C own (p ∷ ps) = step m h e in
        let f = beyond (_ ∷ _ ∷ _ ∷ _ ∷ []) (contents_all os v own (suc own) at ++ behind) own (suc own) (omega arith) e in
        (s, led-all os own (suc own) at behind (p ∷ ps) s.met (omega arith) f)

    led-all : (os : Objects) (p own at : ℕ) (behind ps : List ℕ) → ParentChain C p ps → p < own
        → drop (4 * own) C ≡ contents_all os v p own at ++ behind → Each (Led C) own (ancestors_all os own (p ∷ ps))
    led-all none p own at behind ps m h e = tt
    led-all (more o os) p own at behind ps m h e =
        let here = contents o v p own at in
        let next = own + rows o in
        let others = contents_all os v p next (at + length (bodies o v)) in
        let e' : drop (4 * own) C ≡ here ++ (others ++ behind) = rw append_assoc at e in
        let l = contents-length o v p own at in
        let f = beyond here (others ++ behind) own next (omega arith) e' in
        each_append (Led C) (ancestors o own (p ∷ ps)) (ancestors_all os next (p ∷ ps)) own
        (led o p own at (others ++ behind) ps m h e')
        (rw rows-ancestors (led-all os p next (at + length (bodies o v)) behind ps m (omega arith) f))

all-led : (d : Drawing) → Each (Led (contents_of d)) 0 (groups_around d)
all-led d = (
  record { met = refl; before = λ k. absurd (omega arith) },
  led-all d.version (contents_of d) d.members 0 1 _ [] [] refl (omega arith) (sym (append-nil _)),
)

row-led : (d : Drawing) (r : ℕ) → r < rows (outer d) → Led (contents_of d) r (get_or (groups_around d) r [])
row-led d r h =
    let l = rows-ancestors (outer d) 0 [] in
    rw zero-add at (each_at (Led (contents_of d)) (groups_around d) 0 r [] (omega arith) (all-led d))

-- From any row, following parent numbers until row 0 meets the rows of the groups around that object, the innermost first.
pub leads : (d : Drawing) (r : ℕ) → r < rows (outer d) → ParentChain (contents_of d) r (get_or (groups_around d) r [])
leads d r h = (row-led d r h).met

pub parent_before : (d : Drawing) (r : ℕ) → 0 < r → r < rows (outer d) → parent_in (contents_of d) r < r
parent_before d r z h = (row-led d r h).before z

pub outer_parent : (d : Drawing) → parent_in (contents_of d) 0 ≡ 0
outer_parent d = refl
