-- What walking over one row, and over one body, of a table comes to, both ways. Nothing here knows of objects.
use Rattle.std.specs.Prelude.{◌≡◌, refl, Bool, true, false, ℕ, suc, ◌+◌, ◌-◌, ◌^◌, List, [], ◌∷◌, ◌++◌, length}
use Rattle.std.proofs.Common.{sym, ap, ap₂, ◌∙◌, append-nil, append_assoc, length-append, arith}
use Rattle.std.proofs.Math.Option.{Option, none, some}
use Rattle.std.proofs.Math.Nat as Nat
use Rattle.format.specs.Digits.{Below}
use Rattle.format.specs.Codec.{Outcome, found, refused}
use Rattle.format.specs.FixedReading.{split_at}
use Rattle.drawing.specs.Codecs.{word_fields}
use Rattle.drawing.specs.Reading.{words}
use Rattle.format.specs.FixedCodecLaws.{SplitSays, split_at-says, below_behind}
use Rattle.laws.specs.CodecLaws.{words_sensible, words-literal}
use Rattle.format.specs.Layout.{Layout}
use Rattle.format.specs.Parse.{parse}
use Rattle.format.specs.FixedLayoutLaws.{parse-encoded, parsed_good}
use Rattle.drawing.specs.Table.{words_of, row}
use Rattle.laws.specs.EqualLaws.{equal_refl, equal_true}
use Rattle.drawing.specs.String.{equal}
use Rattle.drawing.specs.TableDrawing.{Place, Walk, met, lost, onward, provided, row_from, next_row, body_from, body}

-- ---- bodies

pub words_used : (ws B : List ℕ) → length (ws ++ B) - length B ≡ length ws
words_used ws B = rw length-append (omega arith)

found_met : {A : Type 0} (a : A) (kind parent own at : ℕ) (C ws B : List ℕ)
    → body_from kind parent (kind ∷ parent ∷ at ∷ length ws ∷ []) (record { row = own; contents = C; at = at; bodies = ws ++ B }) (found a B)
    ≡ met a (record { row = own; contents = C; at = at + length ws; bodies = B })
found_met a kind parent own at C ws B = rw (words_used ws B, equal_refl (kind ∷ parent ∷ at ∷ length ws ∷ []))

-- A body that stands where it should, with its row.
pub body_met : {A : Type 0} (L : Layout A) (a : A) → L.Good a → (kind parent own at : ℕ) (C B : List ℕ)
    → body L kind parent (row kind parent at (length (words_of L a))) (record { row = own; contents = C; at = at; bodies = words_of L a ++ B })
    ≡ met a (record { row = own; contents = C; at = at + length (words_of L a); bodies = B })
body_met L a g kind parent own at C B =
    ap (body_from kind parent (row kind parent at (length (words_of L a))) (record { row = own; contents = C; at = at; bodies = words_of L a ++ B }))
    (parse-encoded word_fields words_sensible L a g B)
    ∙ found_met a kind parent own at C (words_of L a) B

-- ---- what a walk that was not lost has met

abbrev pub Holding : {A : Type 0} → (A → Place → Type 0) → Walk A → Type 0
Holding P (met a p) = P a p
Holding P lost = Unit {0}

pub holding_onward : {A B : Type 0} (P : A → Place → Type 0) (Q : B → Place → Type 0) (w : Walk A) (f : A → Place → Walk B)
    → Holding P w → ((a : A) (p : Place) → P a p → Holding Q (f a p)) → Holding Q (onward w f)
holding_onward P Q (met a p) f h g = g a p h
holding_onward P Q lost f h g = tt

pub holding_provided : {A : Type 0} (P : A → Place → Type 0) (t : Bool) (w : Walk A) → (t ≡ true → Holding P w) → Holding P (provided t w)
holding_provided P true w h = h refl
holding_provided P false w h = tt

-- From one place to another these rows and words were walked over.
pub record Over (p q : Place) (rows : ℕ) (cs bs : List ℕ) : Type 0 where
  pub row : q.row ≡ p.row + rows
  pub contents : p.contents ≡ cs ++ q.contents
  pub at : q.at ≡ p.at + length bs
  pub bodies : p.bodies ≡ bs ++ q.bodies

pub over-both : (p q r : Place) (m n : ℕ) (cs ds bs es : List ℕ) → Over p q m cs bs → Over q r n ds es → Over p r (m + n) (cs ++ ds) (bs ++ es)
over-both p q r m n cs ds bs es g h =
    record {
      row = rw (h.row, g.row) (Nat.add_assoc p.row m n);
      contents = g.contents ∙ rw h.contents (sym (append_assoc cs ds r.contents));
      at = rw (h.at, g.at, length-append) (Nat.add_assoc p.at (length bs) (length es));
      bodies = g.bodies ∙ rw h.bodies (sym (append_assoc bs es r.bodies));
    }

-- What is left is made of words too.
pub over_below : (p q : Place) (n : ℕ) (cs bs : List ℕ) → Over p q n cs bs → Below (2 ^ 32) p.bodies → Below (2 ^ 32) q.bodies
over_below p q n cs bs g b = below_behind (2 ^ 32) bs q.bodies (rw g.bodies at b)

-- A row was met: its four words.
pub record RowMet (p : Place) (row : List ℕ) (q : Place) : Type 0 where
  pub next : q.row ≡ suc p.row
  pub contents : p.contents ≡ row ++ q.contents
  pub at : q.at ≡ p.at
  pub bodies : p.bodies ≡ q.bodies

row_holds : (p : Place) (o : Option (List ℕ × List ℕ)) → SplitSays 4 p.contents o → Holding (RowMet p) (row_from p o)
row_holds p none h = tt
row_holds p (some parts) h = record { next = refl; contents = h.0; at = refl; bodies = refl }

pub next_row_holds : (p : Place) → Holding (RowMet p) (next_row p)
next_row_holds p = row_holds p (split_at 4 p.contents) (split_at-says 4 p.contents)

-- A body was met: a good value, its words, and the row that says so.
pub record BodyMet {A : Type 0} (L : Layout A) (kind parent : ℕ) (row : List ℕ) (p : Place) (a : A) (q : Place) : Type 0 where
  pub good : L.Good a
  pub over : Over p q 0 [] (words_of L a)
  pub row_is : row ≡ kind ∷ parent ∷ p.at ∷ length (words_of L a) ∷ []

body_holds_from : {A : Type 0} (L : Layout A) (kind parent : ℕ) (row : List ℕ) (p : Place) → Below (2 ^ 32) p.bodies
    → (o : Outcome A) → parse words L p.bodies ≡ o → Holding (BodyMet L kind parent row p) (body_from kind parent row p o)
body_holds_from L kind parent row p b (refused n at) e = tt
body_holds_from L kind parent row p b (found a rest) e =
    let h = parsed_good word_fields words_sensible words-literal L p.bodies b a rest e in
    let used : length p.bodies - length rest ≡ length (words_of L a) = ap (λ l. length l - length rest) h.1 ∙ words_used (words_of L a) rest in
    let n = length p.bodies - length rest in
    holding_provided (BodyMet L kind parent row p) (equal row (kind ∷ parent ∷ p.at ∷ n ∷ []))
    (met a (record { row = p.row; contents = p.contents; at = p.at + n; bodies = rest }))
    (λ t.
    record {
      good = h.0;
      over = record { row = sym (Nat.add-zero p.row); contents = refl; at = ap (λ m. p.at + m) used; bodies = h.1 };
      row_is = equal_true row (kind ∷ parent ∷ p.at ∷ n ∷ []) t ∙ ap {B = List ℕ} (λ m. kind ∷ parent ∷ p.at ∷ m ∷ []) used;
    })

pub body_holds : {A : Type 0} (L : Layout A) (kind parent : ℕ) (row : List ℕ) (p : Place) → Below (2 ^ 32) p.bodies → Holding (BodyMet L kind parent row p) (body L kind parent row p)
body_holds L kind parent row p b = body_holds_from L kind parent row p b (parse words L p.bodies) refl

-- ---- a row and the body that it tells of

pub leaf_over : {A : Type 0} (L : Layout A) (kind parent : ℕ) (row : List ℕ) (p q r : Place) (a : A) → RowMet p row q → BodyMet L kind parent row q a r
    → Over p r 1 (kind ∷ parent ∷ p.at ∷ length (words_of L a) ∷ []) (words_of L a)
leaf_over L kind parent row p q r a h b =
    let row_is : row ≡ kind ∷ parent ∷ p.at ∷ length (words_of L a) ∷ [] = b.row_is ∙ ap {B = List ℕ} (λ m. kind ∷ parent ∷ m ∷ length (words_of L a) ∷ []) h.at in
    record {
      row = b.over.row ∙ rw h.next (omega arith);
      contents = h.contents ∙ ap₂ ◌++◌ row_is b.over.contents;
      at = b.over.at ∙ ap (λ m. m + length (words_of L a)) h.at;
      bodies = h.bodies ∙ b.over.bodies;
    }

-- A group's row tells of the body behind those of its members.
pub group_over : {A : Type 0} (L : Layout A) (kind parent : ℕ) (row : List ℕ) (p q s r : Place) (a : A) (n : ℕ) (cs bs : List ℕ)
    → RowMet p row q → Over q s n cs bs → BodyMet L kind parent row s a r
    → Over p r (suc n) ((kind ∷ parent ∷ (p.at + length bs) ∷ length (words_of L a) ∷ []) ++ cs) (bs ++ words_of L a)
group_over L kind parent row p q s r a n cs bs h m b =
    let start : s.at ≡ p.at + length bs = m.at ∙ ap (λ x. x + length bs) h.at in
    let row_is : row ≡ kind ∷ parent ∷ (p.at + length bs) ∷ length (words_of L a) ∷ [] = b.row_is ∙ ap {B = List ℕ} (λ x. kind ∷ parent ∷ x ∷ length (words_of L a) ∷ []) start in
    let all = over-both q s r n 0 cs [] bs (words_of L a) m b.over in
    record {
      row = all.row ∙ rw h.next (omega arith);
      contents = h.contents ∙ ap₂ ◌++◌ row_is (all.contents ∙ ap (λ l. l ++ r.contents) (append-nil cs));
      at = all.at ∙ ap (λ x. x + length (bs ++ words_of L a)) h.at;
      bodies = h.bodies ∙ all.bodies;
    }
