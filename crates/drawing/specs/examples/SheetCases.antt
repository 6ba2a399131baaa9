-- Sheets (R-3): that of the smallest drawing in full, read and written; bytes that are none; and that of a drawing of 1.2.
use Rattle.std.specs.Prelude.{◌≡◌, refl, ℕ, List, [], ◌∷◌, ◌++◌, map, take, set}
use Rattle.format.specs.Packed.{unpacked}
use Rattle.drawing.specs.Sheet.{number_bytes, sheet_of}
use Rattle.drawing.specs.Answers.{answer}
use Rattle.drawing.specs.Computed.{sheet_result, sheet_output}
use Rattle.drawing.specs.examples.EmptyGroups.{empty, site, contents, bodies}

-- ---- 28 bytes: one row, four words; a group whose body is the words 2 and 3

abbrev sheet : List ℕ
sheet =
    0 ∷ 1 ∷ 0 ∷ 4
    ∷ 0 ∷ 1 ∷ 0 ∷ 0 ∷ 0 ∷ 2 ∷ 0 ∷ 2
    ∷ 0 ∷ 0 ∷ 0 ∷ 0 ∷ 0 ∷ 0 ∷ 0 ∷ 0 ∷ 0 ∷ 0 ∷ 0 ∷ 0 ∷ 0 ∷ 0 ∷ 0 ∷ 0
    ∷ []

sheet_is : sheet_of number_bytes empty ≡ sheet
sheet_is = refl

abbrev lent : List ℕ
lent = 9 ∷ 9 ∷ 9 ∷ 9 ∷ 9 ∷ []

-- A word past the table is untouched.
sheet-reads : sheet_result sheet lent lent ≡ record { answer = answer 0 28 1 4; contents = 1 ∷ 0 ∷ 2 ∷ 2 ∷ 9 ∷ []; bodies = 0 ∷ 0 ∷ 0 ∷ 0 ∷ 9 ∷ [] }
unfolding unpacked
sheet-reads = refl

short-contents : sheet_result sheet (take 3 lent) [] ≡ record { answer = answer 14 28 1 4; contents = take 3 lent; bodies = [] }
unfolding unpacked
short-contents = refl

short-bodies : sheet_result sheet lent (take 3 lent) ≡ record { answer = answer 15 28 1 4; contents = lent; bodies = take 3 lent }
unfolding unpacked
short-bodies = refl

sheet_writes : sheet_output (1 ∷ 0 ∷ 2 ∷ 2 ∷ []) (0 ∷ 0 ∷ 0 ∷ 0 ∷ []) (sheet ++ lent) ≡ record { answer = answer 0 28 1 4; buffer = sheet ++ lent }
sheet_writes = refl

short_output : sheet_output (1 ∷ 0 ∷ 2 ∷ 2 ∷ []) (0 ∷ 0 ∷ 0 ∷ 0 ∷ []) lent ≡ record { answer = answer 17 28 0 0; buffer = lent }
short_output = refl

no_table_lem : sheet_output (1 ∷ 0 ∷ 2 ∷ 3 ∷ []) (0 ∷ 0 ∷ 0 ∷ 0 ∷ []) lent ≡ record { answer = answer 16 0 0 0; buffer = lent }
no_table_lem = refl

-- ---- bytes that are no sheet

-- None at all, three, one too few, one too many; a row count and a word count that lie; a wrong parent, start and size; a flag of 2.
abbrev others : List (List ℕ)
others =
    []
    ∷ take 3 sheet
    ∷ take 27 sheet
    ∷ (sheet ++ 0 ∷ [])
    ∷ set sheet 1 0
    ∷ set sheet 3 3
    ∷ set sheet 7 1
    ∷ set sheet 9 1
    ∷ set sheet 11 3
    ∷ set sheet 27 2
    ∷ []

refused : map (λ bytes. sheet_result bytes lent lent) others ≡ map (λ bytes. record { answer = answer 19 0 0 0; contents = lent; bodies = lent }) others
unfolding unpacked
refused = refl

-- ---- version 1.2, with labels

site-reads : sheet_result (sheet_of number_bytes site) contents bodies ≡ record { answer = answer 0 132 4 24; contents = contents; bodies = bodies }
unfolding unpacked
site-reads = refl

site_writes : sheet_output contents bodies (sheet_of number_bytes site) ≡ record { answer = answer 0 132 4 24; buffer = sheet_of number_bytes site }
site_writes = refl
