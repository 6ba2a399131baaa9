-- Tables that no acceptable file gives (16), and the answers for rooms that are just long enough or too short (14, 15, 17, 18), on a
-- drawing of version 1.0 with two equal bitmaps (01, 'The table', 'Numbers given back').
use Rattle.std.specs.Prelude.{◌≡◌, refl, ℕ, List, [], ◌∷◌, ◌++◌, map, replicate, set, take}
use Rattle.drawing.specs.declared.PaintAnswer.TheVariants.{Refused}
use Rattle.drawing.specs.declared.Which.TheVariants.{Line}
use Rattle.drawing.specs.Answers.{answer}
use Rattle.drawing.specs.Computed.{read_result, check_answer, write_output, list_output, paint_answer, text_answer, description_answer}
use Rattle.drawing.specs.examples.Bytes.{Item, flag, int, char, string, codes, bytes, words, doubles, head}

-- name, flag, transformation, flow flag
abbrev bitmap : List Item
bitmap = string "a" ∷ flag 0 ∷ doubles (0x11_0000_0021 ∷ 0 ∷ 0 ∷ 0x12_0000_0022 ∷ 0 ∷ 0 ∷ []) ++ flag 0 ∷ []

-- 140 bytes
abbrev file : List ℕ
file = bytes (head "0" ++ flag 0 ∷ char "G" ∷ int 2 ∷ char "I" ∷ bitmap ++ char "I" ∷ bitmap ++ flag 0 ∷ [])

-- 3 rows
abbrev contents : List ℕ
contents = 1 ∷ 0 ∷ 34 ∷ 2 ∷ 4 ∷ 0 ∷ 2 ∷ 16 ∷ 4 ∷ 0 ∷ 18 ∷ 16 ∷ []

-- 36 words: version, settings flag; the first bitmap from 2 on, the second from 18 on; the group's count 34 and flow flag 35
abbrev bodies : List ℕ
bodies = words (int 0 ∷ flag 0 ∷ bitmap ++ bitmap ++ int 2 ∷ flag 0 ∷ [])

-- ---- 16

abbrev pub Table : Type 0
Table = List ℕ × List ℕ

-- The contents or the bodies with one word changed.
abbrev row : ℕ → ℕ → Table
row at word = (set contents at word, bodies)

abbrev body : ℕ → ℕ → Table
body at word = (contents, set bodies at word)

abbrev bad : List Table
bad =
    -- a run too short or too long
    ([], bodies)
    ∷ (take 8 contents, bodies)
    ∷ (take 11 contents, bodies)
    ∷ (contents ++ 0 ∷ [], bodies)
    ∷ (contents ++ 4 ∷ 0 ∷ 36 ∷ 0 ∷ [], bodies)
    ∷ (contents, [])
    ∷ (contents, take 35 bodies)
    ∷ (contents, bodies ++ 0 ∷ [])
    -- equal bodies exchanged together with their starts
    ∷ (1 ∷ 0 ∷ 34 ∷ 2 ∷ 4 ∷ 0 ∷ 18 ∷ 16 ∷ 4 ∷ 0 ∷ 2 ∷ 16 ∷ [], bodies)
    -- kinds; the first row's parent is 0, and a bitmap is no parent; starts and lengths
    ∷ row 0 4
    ∷ row 4 1
    ∷ row 4 2
    ∷ row 8 3
    ∷ row 8 5
    ∷ row 8 6
    ∷ row 1 1
    ∷ row 5 2
    ∷ row 9 1
    ∷ row 2 33
    ∷ row 6 3
    ∷ row 10 2
    ∷ row 3 3
    ∷ row 7 15
    ∷ row 11 17
    -- version, settings, name length, char, flag, flow flag, count
    ∷ body 0 5
    ∷ body 0 6
    ∷ body 0 2
    ∷ body 1 2
    ∷ body 2 0
    ∷ body 2 2
    ∷ body 3 0x1_0000
    ∷ body 4 2
    ∷ body 4 256
    ∷ body 17 1
    ∷ body 33 256
    ∷ body 34 1
    ∷ body 34 3
    ∷ body 35 1
    ∷ []

none_good : map (λ (t : Table). check_answer t.0 t.1) bad ≡ map (λ (t : Table). answer 16 0 0 0) bad
none_good = refl

-- Every call that takes a table says so, before 6 and 7, and before 17 and 18.
others : (write_output [] bodies (1 ∷ []) ≡ record { answer = answer 16 0 0 0; buffer = 1 ∷ [] })
    × (list_output [] bodies [] [] ≡ record { answer = answer 16 0 0 0; buffer = [] })
    × (paint_answer [] bodies 9 Line ≡ Refused 16)
    × (text_answer [] bodies 9 ≡ record { number = 16; alternative = record { start = 0; length = 0 }; text = record { start = 0; length = 0 } })
    × (description_answer [] bodies 9 ≡ record { number = 16; chars = record { start = 0; length = 0 } })
others = (refl, refl, refl, refl, refl)

-- A file of 1.1 has the same words for these fields.
good : (check_answer contents bodies ≡ answer 0 140 3 36) × (check_answer contents (set bodies 0 1) ≡ answer 0 140 3 36)
good = (refl, refl)

-- ---- rooms

-- Rows that are whole, and words; 14 comes before 15, and both carry both counts.
reading : (read_result file (replicate 12 7) (replicate 36 8) ≡ record { answer = answer 0 140 3 36; contents = contents; bodies = bodies })
    × (read_result file (replicate 15 7) (replicate 38 8) ≡ record { answer = answer 0 140 3 36; contents = contents ++ 7 ∷ 7 ∷ 7 ∷ []; bodies = bodies ++ 8 ∷ 8 ∷ [] })
    × (read_result file (replicate 11 7) (replicate 36 8) ≡ record { answer = answer 14 140 3 36; contents = replicate 11 7; bodies = replicate 36 8 })
    × (read_result file (replicate 12 7) (replicate 35 8) ≡ record { answer = answer 15 140 3 36; contents = replicate 12 7; bodies = replicate 35 8 })
    × (read_result file [] [] ≡ record { answer = answer 14 140 3 36; contents = []; bodies = [] })
    × (read_result (file ++ 0 ∷ []) [] [] ≡ record { answer = answer 13 140 0 0; contents = []; bodies = [] })
reading = (refl, refl, refl, refl, refl, refl)

writing : (write_output contents bodies (replicate 141 9) ≡ record { answer = answer 0 140 3 36; buffer = file ++ 9 ∷ [] })
    × (write_output contents bodies (replicate 139 9) ≡ record { answer = answer 17 140 0 0; buffer = replicate 139 9 })
writing = (refl, refl)

-- Below 1.2 the empty label lists every row, and any other label none.
listing : (list_output contents bodies [] (9 ∷ 9 ∷ 9 ∷ 9 ∷ []) ≡ record { answer = answer 0 0 3 0; buffer = 0 ∷ 1 ∷ 2 ∷ 9 ∷ [] })
    × (list_output contents bodies [] (9 ∷ 9 ∷ []) ≡ record { answer = answer 18 3 0 0; buffer = 9 ∷ 9 ∷ [] })
    × (list_output contents bodies (codes "a") [] ≡ record { answer = answer 0 0 0 0; buffer = [] })
listing = (refl, refl, refl)
