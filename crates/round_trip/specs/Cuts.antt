-- A session that was given the first bytes of a file, and those up to the next cut.
use Rattle.std.specs.Prelude.{◌≡◌, refl, ℕ, ◌+◌, ◌-◌, ◌≤◌, List, [], ◌++◌, length, take, drop}
use Rattle.std.proofs.Common.{sym, ap, ◌∙◌, subst, arith, take-add, take_all}
use Rattle.drawing.specs.declared.Answer.{Answer}
use Rattle.pieces.specs.declared.Session.{Session}
use Rattle.pieces.specs.Session.{Stands}
use Rattle.pieces.specs.SessionPromises.{Pieces, Verdict, Verdicts}

pub record GivenTo (file : List ℕ) (s : Session) (at : ℕ) : Type 0 where
  pub there : at ≤ length file
  pub fresh : s.spent ≡ 0
  pub stands : Stands (take at file) s

pub given_nothing : {file : List ℕ} {s : Session} → (s.spent ≡ 0) × Stands [] s → GivenTo file s 0
given_nothing opened = record { there = omega arith; fresh = opened.0; stands = opened.1 }

pub given_more : {file : List ℕ} {s s' : Session} {r : Answer} {at cut : ℕ} → GivenTo file s at → at ≤ cut → cut ≤ length file → Pieces s (take (cut - at) (drop at file)) s' r → GivenTo file s' cut
given_more {file} {s} {s'} {r} {at} {cut} given on there call =
    let sum : at + (cut - at) ≡ cut = omega arith in
    record {
      there = there;
      fresh = call.fresh given.fresh;
      stands = subst (λ l. Stands l s') (sym (take-add at (cut - at) file) ∙ ap (λ n. take n file) sum) (call.stands given.fresh (take at file) given.stands);
    }

-- Given the whole file, its verdict is the reader's.
pub given-all : {file : List ℕ} {s s' : Session} {r : Answer} {at : ℕ} → GivenTo file s at → length file ≤ at → Verdicts s s' r → Verdict file r
given-all {file} {r = r} {at} given all call = subst (λ l. Verdict l r) (take_all at file all) (call.stands (take at file) given.stands)
