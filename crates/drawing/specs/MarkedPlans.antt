-- The plans that settle an argument (01), marked m1 to m14: one table of files, lent rooms and expected results, and one statement over it.
-- m6 and m9 are as R-1 and R-2 have them.
use Rattle.std.specs.Prelude.{◌≡◌, refl, ℕ, List, [], ◌∷◌, ◌++◌, map, take, set, replicate}
use Prim.Native.Char.{code}
use Rattle.std.proofs.lemmas.List.Edits.{sets}
use Rattle.format.specs.Digits.{digits}
use Rattle.drawing.specs.Answers.{answer, ReadResult}
use Rattle.drawing.specs.Computed.{read_result}

-- ---- plan A: version 1.0, a group of one bitmap named a, with the transformation 1 0 0 1 0 0

abbrev int : ℕ → List ℕ
int n = digits 256 4 n

abbrev char : ℕ → List ℕ
char c = digits 256 2 c

abbrev double : ℕ → List ℕ
double bits = digits 256 8 bits

-- the bits of the double 1
abbrev one : ℕ
one = 0x3ff0_0000_0000_0000

abbrev pub plan_a : List ℕ
plan_a =
    char (code "J") ++ char (code "D") ++ char (code "R")
    ++ int 3 ++ char (code "1") ++ char (code ".") ++ char (code "0")
    ++ (0 ∷ [])
    ++ char (code "G") ++ int 1
    ++ char (code "I") ++ int 1 ++ char (code "a") ++ (0 ∷ [])
    ++ double one ++ double 0 ++ double 0 ++ double one ++ double 0 ++ double 0
    ++ (0 ∷ [])
    ++ (0 ∷ [])

abbrev contents_a : List ℕ
contents_a = 1 ∷ 0 ∷ 18 ∷ 2 ∷ 4 ∷ 0 ∷ 2 ∷ 16 ∷ []

abbrev bodies_a : List ℕ
bodies_a =
    0 ∷ 0
    ∷ 1 ∷ code "a" ∷ 0 ∷ 0x3ff0_0000 ∷ 0 ∷ 0 ∷ 0 ∷ 0 ∷ 0 ∷ 0x3ff0_0000 ∷ 0 ∷ 0 ∷ 0 ∷ 0 ∷ 0 ∷ 0
    ∷ 1 ∷ 0
    ∷ []

-- ---- the table

-- Words that lie in lent memory before a call.
abbrev lent : ℕ → List ℕ
lent n = replicate n 0xa5a5

-- A file, the room lent in words, and what is expected.
pub record Case : Type 0 where
  pub file : List ℕ
  pub contents : List ℕ
  pub bodies : List ℕ
  pub expected : ReadResult

-- A refusal: number and offset, both counts 0, and the lent memory as before.
abbrev refused : List ℕ → (number offset : ℕ) → Case
refused file n o =
    record { file = file; contents = lent 12; bodies = lent 24; expected = record { answer = answer n o 0 0; contents = lent 12; bodies = lent 24 } }

-- Plan A in too small a room: the counts needed, and the lent memory as before.
abbrev short : (contents bodies number : ℕ) → Case
short c b n =
    record { file = plan_a; contents = lent c; bodies = lent b; expected = record { answer = answer n 82 2 20; contents = lent c; bodies = lent b } }

abbrev pub marked : List Case
marked =
    -- m1: plan A gives its table, and past it the lent memory is untouched
    record {
      file = plan_a;
      contents = lent 12;
      bodies = lent 24;
      expected = record { answer = answer 0 82 2 20; contents = contents_a ++ lent 4; bodies = bodies_a ++ lent 4 };
    }
    -- m2: no bytes; m3: the first four
    ∷ refused [] 2 0
    ∷ refused (take 4 plan_a) 2 0
    -- m4: JDS
    ∷ refused (set plan_a 5 (code "S")) 3 0
    -- m5: version length 4; m6: version 1.6
    ∷ refused (set plan_a 9 4) 4 6
    ∷ refused (set plan_a 15 (code "6")) 4 10
    -- m7: settings 2, which is true, so all settings are read and the tool is at fault
    ∷ refused (set plan_a 16 2) 6 20
    -- m8: outer id T
    ∷ refused (set plan_a 18 (code "T")) 7 17
    -- m9: n = 0, so that the 0 at 23 is the flow frame flag; m10: n = 2
    ∷ refused (set plan_a 22 0) 13 24
    ∷ refused (set plan_a 22 2) 2 81
    -- m11: name length -1
    ∷ refused (sets plan_a 25 (255 ∷ 255 ∷ 255 ∷ 255 ∷ [])) 8 25
    -- m12: flow flag 1, and 2, which is true as well
    ∷ refused (set plan_a 80 1) 11 80
    ∷ refused (set plan_a 80 2) 11 80
    -- m13: one byte more
    ∷ refused (plan_a ++ (0 ∷ [])) 13 82
    -- m14: room for 1 row; for 2 rows and 19 words
    ∷ short 4 24 14
    ∷ short 8 19 15
    ∷ []

-- The definitions give every row of the table.
pub all-marked : map (λ c. read_result c.file c.contents c.bodies) marked ≡ map (λ c. c.expected) marked
all-marked = refl
