-- Of two things that stand at a place, the second stands behind the first.
use Rattle.std.specs.Prelude.{◌≡◌, refl, true, false, ◌&&◌, ℕ, ◌+◌, ◌<◌, ◌≤◌, List, ◌∷◌, ◌++◌, length, drop, get_or, eqb}
use Rattle.std.proofs.Common.{sym, ap, subst, ◌∙◌, add-zero, arith, append_assoc, length-append, length-drop, drop-drop, get_or-drop}
use Rattle.std.proofs.Math.Seq.{drop-append_seam}
use Rattle.format.specs.Layout.{Layout, either, ◌&◌}
use Rattle.format.specs.Alternative.{Alternative, chosen}
use Rattle.drawing.specs.Table.{words_of}
use Rattle.laws.specs.WordLaws.{pair_words}
use Rattle.laws.specs.Standing.{WordsStand, Here, Behind}

module _ {ws : List ℕ} {at : ℕ} where
  pub stands_long : {xs zs : List ℕ} → WordsStand ws at xs zs → at + length xs ≤ length ws
  stands_long {xs} {zs} stands = omega (arith, sym (length-drop at ws) ∙ ap length stands.words_are ∙ length-append xs zs, stands.within)

  -- Of two runs the first stands here, and the other one behind it.
  module _ (xs ys : List ℕ) {zs : List ℕ} (stands : WordsStand ws at (xs ++ ys) zs) where
    pub stands_first : WordsStand ws at xs (ys ++ zs)
    stands_first = record { within = stands.within; words_are = stands.words_are ∙ append_assoc xs ys zs }

    pub stands_next : WordsStand ws (at + length xs) ys zs
    stands_next =
        record {
          within = stands_long stands_first;
          words_are = sym (drop-drop (length xs) at ws) ∙ ap (drop (length xs)) stands_first.words_are ∙ drop-append_seam xs (ys ++ zs);
        }

module _ {A : Type 0} {N : Layout A} {ws : List ℕ} {at : ℕ} {a : A} (here : Here N ws at a) where
  same_stands : {these : List ℕ} → words_of N a ≡ these → WordsStand ws at these here.rest
  same_stands same = subst (λ l. WordsStand ws at l here.rest) same here.stands

  -- Another value with the same words stands here too.
  pub here_as : {B : Type 0} (M : Layout B) {b : B} → words_of N a ≡ words_of M b → M.Good b → Here M ws at b
  here_as M same good = record { good = good; rest = here.rest; stands = same_stands same }

  -- And one whose words come behind these.
  pub here-behind : {B : Type 0} (front : List ℕ) (M : Layout B) {b : B} → words_of N a ≡ front ++ words_of M b → M.Good b → Here M ws (at + length front) b
  here-behind front M {b} same good = record { good = good; rest = here.rest; stands = stands_next front (words_of M b) (same_stands same) }

  pub first_word : {x : ℕ} {xs : List ℕ} → words_of N a ≡ x ∷ xs → (at < length ws) × (get_or ws at 0 ≡ x)
  first_word {x} {xs} is =
      let stands = same_stands is in
      (omega (arith, stands_long stands), ap (λ n. get_or ws n 0) (sym (add-zero at)) ∙ sym (get_or-drop at ws 0 0) ∙ ap (λ l. get_or l 0 0) stands.words_are)

-- What is chosen is the first alternative, if its tag is this and it is on, and otherwise what the others choose.
module _ {B : Type 0} {tag_of : B → ℕ} (fallback x : Alternative B tag_of) (xs : List (Alternative B tag_of)) (c : ℕ) {ws : List ℕ} {at : ℕ} {b : B} where
  pub here-chosen : (x.on && eqb c x.tag) ≡ true → Here (chosen fallback (x ∷ xs) c) ws at b → Here x.layout ws at b
  here-chosen on here =
      let this = subst (λ t. Here (either t x.layout (chosen fallback xs c)) ws at b) on here in
      here_as this x.layout refl this.good

  pub here-other : (x.on && eqb c x.tag) ≡ false → Here (chosen fallback (x ∷ xs) c) ws at b → Here (chosen fallback xs c) ws at b
  here-other off here =
      let this = subst (λ t. Here (either t x.layout (chosen fallback xs c)) ws at b) off here in
      here_as this (chosen fallback xs c) refl this.good

-- Of two parts the first stands here, and the other one behind it.
module _ {A B : Type 0} (L : Layout A) (M : Layout B) {ws : List ℕ} {at : ℕ} {a : A} {b : B} (here : Here (L & M) ws at (a, b)) where
  pub here-first : Here L ws at a
  here-first = record { good = here.good.0; rest = words_of M b ++ here.rest; stands = stands_first (words_of L a) (words_of M b) (same_stands here (pair_words L M a b)) }

  pub here_second : Here M ws (at + length (words_of L a)) b
  here_second = here-behind here (words_of L a) M (pair_words L M a b) here.good.1

  pub here_next : {behind : ℕ} → Behind L ws at behind → Here M ws behind b
  here_next is = subst (λ n. Here M ws n b) (sym (is a here-first)) here_second

  pub here_later : {behind : ℕ} → Behind L ws at behind → at ≤ behind
  here_later is = omega (arith, is a here-first)

  -- The other one ends where both end.
  pub next_ends : {behind : ℕ} → Behind L ws at behind → behind + length (words_of M b) ≡ at + length (words_of (L & M) (a, b))
  next_ends is = omega (arith, is a here-first, ap length (pair_words L M a b), length-append (words_of L a) (words_of M b))
