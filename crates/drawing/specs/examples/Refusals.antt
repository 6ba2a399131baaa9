-- Files that are refused, with the number and the offset that 01 ('Numbers given back') gives them; and some beside them that are
-- accepted, with 0 and their length. One statement says that the definitions give all of them.
use Rattle.std.specs.Prelude.{◌≡◌, refl, ℕ, List, [], ◌∷◌, ◌++◌, map, length, replicate}
use Rattle.std.specs.Float.Ieee.{le, lt, of_int, of_bits}
use Rattle.format.specs.FloatRange.{from_zero_to, from_zero_below}
use Rattle.drawing.specs.Reading.{Reading, drawing, refusal, drawing_of}
use Rattle.drawing.specs.examples.Bytes.{byte, flag, int, float, double, char, string, coded, floats}
use Rattle.drawing.specs.examples.Cases.{Case, times, raw, file, object, bitmap, paints, style, text, text_path, flags}
use Rattle.drawing.specs.examples.PathCases.{styles, segments}

-- ---- the head

abbrev heads : List Case
heads =
    -- the length alone, before any byte
    record { file = replicate 65_536 0; number = 1; offset = 65_535 }
    ∷ record { file = replicate 65_535 0; number = 3; offset = 0 }
    ∷ raw [] 2 0
    ∷ raw (char "J" ∷ char "D" ∷ []) 2 0
    -- cut, and wrong already
    ∷ raw (char "X" ∷ byte 0 ∷ []) 2 0
    ∷ raw (char "J" ∷ char "D" ∷ char "S" ∷ int 3 ∷ char "1" ∷ char "." ∷ char "0" ∷ []) 3 0
    ∷ raw (char "j" ∷ char "D" ∷ char "R" ∷ int 4 ∷ char "1" ∷ char "." ∷ char "4" ∷ []) 3 0
    ∷ raw (char "J" ∷ char "D" ∷ char "R" ∷ byte 255 ∷ []) 2 6
    ∷ raw (char "J" ∷ char "D" ∷ char "R" ∷ int 4 ∷ char "1" ∷ char "." ∷ char "0" ∷ char "0" ∷ []) 4 6
    ∷ raw (char "J" ∷ char "D" ∷ char "R" ∷ int 0xFFFF_FFFF ∷ []) 4 6
    ∷ raw (char "J" ∷ char "D" ∷ char "R" ∷ int 0 ∷ []) 4 6
    ∷ raw (char "J" ∷ char "D" ∷ char "R" ∷ int 3 ∷ char "2" ∷ char "." ∷ byte 0 ∷ []) 2 10
    ∷ raw (char "J" ∷ char "D" ∷ char "R" ∷ int 3 ∷ char "2" ∷ char "." ∷ char "0" ∷ []) 4 10
    ∷ raw (char "J" ∷ char "D" ∷ char "R" ∷ int 3 ∷ char "1" ∷ char "," ∷ char "0" ∷ []) 4 10
    ∷ file "6" (byte 0 ∷ []) 4 10
    ∷ file "/" (byte 0 ∷ []) 4 10
    -- the settings: a flag below 1.3, a byte from 1.3 on; 200 is -56
    ∷ file "0" [] 2 16
    ∷ file "0" (flag 2 ∷ []) 2 17
    ∷ file "2" (flag 2 ∷ []) 2 17
    ∷ file "1" (flag 255 ∷ []) 2 17
    ∷ file "3" [] 2 16
    ∷ file "3" (byte 3 ∷ []) 6 16
    ∷ file "4" (byte 200 ∷ []) 6 16
    -- grid, lock and rulers
    ∷ file "3" (byte 1 ∷ flag 2 ∷ []) 2 18
    ∷ file "0" (flag 1 ∷ flag 1 ∷ flag 3 ∷ []) 2 19
    ∷ file "1" (flag 1 ∷ flag 1 ∷ flag 0 ∷ flag 128 ∷ []) 2 20
    -- tool, paper, unit
    ∷ file "0" (flags ++ int 8 ∷ []) 6 20
    ∷ file "3" (flags ++ int 0xFFFF_FFFF ∷ []) 6 20
    ∷ file "4" (flags ++ byte 255 ∷ []) 2 20
    ∷ file "2" (flags ++ int 7 ∷ int 0 ∷ byte 19 ∷ []) 6 28
    ∷ file "0" (flags ++ int 7 ∷ int 0 ∷ byte 255 ∷ []) 6 28
    ∷ file "3" (byte 2 ∷ byte 73 ∷ []) 6 17
    ∷ file "4" (byte 2 ∷ byte 128 ∷ []) 6 17
    ∷ file "0" (flags ++ int 7 ∷ int 0 ∷ byte 17 ∷ byte 4 ∷ []) 6 29
    ∷ file "4" (flags ++ int 7 ∷ int 0 ∷ byte 72 ∷ byte 255 ∷ []) 6 29
    -- a paper of its own size, with a portrait flag below 1.3 and the unit there from 1.3 on
    ∷ file "2" (flags ++ int 7 ∷ int 0 ∷ byte 18 ∷ double 0 ∷ double 0 ∷ flag 2 ∷ []) 2 46
    ∷ file "3" (flags ++ int 7 ∷ int 0 ∷ byte 18 ∷ double 0 ∷ double 0 ∷ byte 4 ∷ []) 6 45
    ∷ file "4" (byte 2 ∷ byte 18 ∷ double 0 ∷ int 0 ∷ []) 2 26
    -- the outer object
    ∷ file "0" (flag 0 ∷ char "T" ∷ []) 7 17
    ∷ file "4" (byte 0 ∷ char "P" ∷ []) 7 17
    ∷ file "3" (byte 2 ∷ byte 72 ∷ char "g" ∷ []) 7 18
    ∷ file "1" (flag 0 ∷ byte 255 ∷ []) 2 17
    ∷ file "0" (flag 0 ∷ char "G" ∷ int 0 ∷ []) 2 23
    ∷ file "0" (flag 0 ∷ char "G" ∷ int 0xFFFF_FFFF ∷ []) 8 19
    ∷ file "3" (byte 0 ∷ char "G" ∷ int 0xFFFF_FFFF ∷ []) 8 19
    ∷ file "2" (byte 0 ∷ char "G" ∷ byte 255 ∷ []) 2 19
    ∷ []

-- ---- objects and their ends

abbrev objects : List Case
objects =
    object "2" (char "X" ∷ []) 7 23
    ∷ object "4" (coded [] ∷ []) 7 23
    ∷ object "0" (byte 1 ∷ []) 2 23
    -- an inner group's count
    ∷ object "0" (char "G" ∷ int 0xFFFF_FFFF ∷ []) 8 25
    ∷ object "4" (char "G" ∷ int 0x8000_0000 ∷ []) 8 25
    -- a bitmap's name: a cut string is missing its next char, and a count is not held against the bytes left
    ∷ object "0" (char "I" ∷ int 0 ∷ []) 8 25
    ∷ object "4" (char "I" ∷ int 0xFFFF_FFFF ∷ []) 8 25
    ∷ object "0" (char "I" ∷ int 3 ∷ char "a" ∷ char "b" ∷ []) 2 33
    ∷ object "2" (char "I" ∷ int 3 ∷ char "a" ∷ byte 0 ∷ []) 2 31
    ∷ object "3" (char "I" ∷ int 0x7FFF_FFFF ∷ []) 2 29
    ∷ object "4" (char "I" ∷ string "a" ∷ flag 2 ∷ []) 2 32
    ∷ object "1" (char "I" ∷ string "a" ∷ flag 1 ∷ string "" ∷ int 0xFFFF_FFFE ∷ []) 8 36
    ∷ object "1" (char "I" ∷ string "a" ∷ flag 0 ∷ double 0 ∷ double 0 ∷ int 0 ∷ []) 2 48
    -- flow flags: of the bitmap, and of the group; a group's end comes behind its objects
    ∷ object "0" (bitmap ++ flag 1 ∷ []) 11 80
    ∷ object "3" (bitmap ++ flag 1 ∷ []) 11 80
    ∷ object "0" (bitmap ++ flag 2 ∷ []) 11 80
    ∷ object "4" (bitmap ++ flag 255 ∷ []) 11 80
    ∷ object "1" bitmap 2 80
    ∷ object "0" (bitmap ++ flag 0 ∷ []) 2 81
    ∷ object "1" (bitmap ++ flag 0 ∷ flag 1 ∷ []) 11 81
    ∷ object "1" (bitmap ++ flag 0 ∷ flag 2 ∷ []) 11 81
    ∷ object "4" (bitmap ++ flag 0 ∷ string "" ∷ flag 1 ∷ []) 11 85
    -- descriptions, from 1.2 on
    ∷ object "2" (bitmap ++ flag 0 ∷ []) 2 81
    ∷ object "2" (bitmap ++ flag 0 ∷ int 0xFFFF_FFFF ∷ []) 8 81
    ∷ object "3" (bitmap ++ flag 0 ∷ int 2 ∷ char "a" ∷ []) 2 87
    ∷ object "4" (bitmap ++ flag 0 ∷ string "" ∷ flag 0 ∷ []) 2 86
    ∷ object "4" (bitmap ++ flag 0 ∷ string "" ∷ flag 0 ∷ int 0x8000_0000 ∷ []) 8 86
    -- an object that is missing, and bytes too many
    ∷ file "0" (flag 0 ∷ char "G" ∷ int 2 ∷ bitmap ++ flag 0 ∷ flag 0 ∷ []) 2 81
    ∷ file "3" (byte 0 ∷ char "G" ∷ int 2 ∷ bitmap ++ flag 0 ∷ string "" ∷ []) 2 85
    ∷ object "0" (bitmap ++ flag 0 ∷ flag 0 ∷ byte 0 ∷ []) 13 82
    ∷ object "4" (bitmap ++ flag 0 ∷ string "" ∷ flag 0 ∷ string "b" ∷ byte 7 ∷ byte 8 ∷ []) 13 92
    ∷ object "0" (bitmap ++ flag 0 ∷ flag 0 ∷ []) 0 82
    ∷ object "4" (bitmap ++ flag 0 ∷ string "" ∷ flag 0 ∷ string "b" ∷ []) 0 92
    -- depth 16 and 17, the outer group being depth 1; a char that is not in the list comes before 10
    ∷ object "0" (times 15 (char "G" ∷ int 1 ∷ []) ++ bitmap ++ flag 0 ∷ times 16 (flag 0 ∷ [])) 0 187
    ∷ object "4" (times 15 (char "G" ∷ int 1 ∷ []) ++ bitmap ++ flag 0 ∷ string "" ∷ times 16 (flag 0 ∷ string "" ∷ [])) 0 255
    ∷ object "0" (times 16 (char "G" ∷ int 1 ∷ []) ++ bitmap ++ flag 0 ∷ times 17 (flag 0 ∷ [])) 10 113
    ∷ object "4" (times 15 (char "G" ∷ int 1 ∷ []) ++ char "G" ∷ int 0 ∷ []) 10 113
    -- empty groups: the smallest file, at the greatest depth, at the next, one with a bitmap behind it
    ∷ file "0" (flag 0 ∷ char "G" ∷ int 0 ∷ flag 0 ∷ []) 0 24
    ∷ file "5" (byte 0 ∷ char "G" ∷ int 0 ∷ flag 0 ∷ string "" ∷ []) 0 28
    ∷ object "0" (times 14 (char "G" ∷ int 1 ∷ []) ++ char "G" ∷ int 0 ∷ times 16 (flag 0 ∷ [])) 0 129
    ∷ object "0" (times 15 (char "G" ∷ int 1 ∷ []) ++ char "G" ∷ int 0 ∷ times 17 (flag 0 ∷ [])) 10 113
    ∷ file "0" (flag 0 ∷ char "G" ∷ int 2 ∷ char "G" ∷ int 0 ∷ flag 0 ∷ bitmap ++ flag 0 ∷ flag 0 ∷ []) 0 89
    ∷ object "0" (char "G" ∷ int 0 ∷ flag 1 ∷ []) 11 29
    ∷ object "2" (times 15 (char "G" ∷ int 1 ∷ []) ++ char "H" ∷ []) 7 113
    ∷ object "2" (times 15 (char "G" ∷ int 1 ∷ []) ++ byte 0 ∷ []) 2 113
    -- depth 17 where an object of depth 16 has ended
    ∷ object "1" (times 14 (char "G" ∷ int 1 ∷ []) ++ char "G" ∷ int 2 ∷ bitmap ++ flag 0 ∷ char "G" ∷ []) 10 171
    ∷ []

-- ---- paints

abbrev paint_cases : List Case
paint_cases =
    object "0" (char "P" ∷ char "X" ∷ []) 7 25
    ∷ object "4" (paints ++ []) 2 29
    ∷ object "2" (char "P" ∷ char "T" ∷ char "D" ∷ []) 7 27
    ∷ object "0" (char "P" ∷ char "D" ∷ []) 7 25
    ∷ object "3" (char "P" ∷ char "Y" ∷ []) 7 25
    ∷ object "0" (char "P" ∷ char "S" ∷ []) 7 25
    ∷ object "3" (text ++ flag 0 ∷ char "S" ∷ []) 7 84
    -- in a gradient; a gradient is no plain paint
    ∷ object "3" (char "P" ∷ char "G" ∷ char "S" ∷ []) 7 27
    ∷ object "3" (char "P" ∷ char "D" ∷ char "T" ∷ char "Y" ∷ []) 7 29
    ∷ object "4" (char "P" ∷ char "G" ∷ char "T" ∷ char "G" ∷ []) 7 29
    ∷ object "4" (char "P" ∷ char "D" ∷ char "D" ∷ []) 7 27
    -- in a marker
    ∷ object "3" (style ++ byte 1 ∷ float 0 ∷ byte 1 ∷ flag 0 ∷ flag 1 ∷ char "Y" ∷ []) 7 48
    ∷ object "1" (style ++ byte 1 ∷ float 0 ∷ byte 1 ∷ flag 0 ∷ flag 1 ∷ char "S" ∷ []) 7 48
    ∷ object "2" (style ++ byte 1 ∷ float 0 ∷ byte 1 ∷ flag 0 ∷ flag 0 ∷ float 0 ∷ char "D" ∷ []) 7 52
    ∷ object "4" (style ++ byte 1 ∷ float 0 ∷ byte 1 ∷ flag 0 ∷ flag 0 ∷ float 0 ∷ char "G" ∷ []) 7 52
    -- directions and locations
    ∷ object "0" (char "P" ∷ char "G" ∷ char "T" ∷ char "T" ∷ int 8 ∷ []) 6 31
    ∷ object "4" (char "P" ∷ char "G" ∷ char "T" ∷ char "T" ∷ int 0xFFFF_FFFF ∷ []) 6 31
    ∷ object "3" (char "P" ∷ char "D" ∷ char "T" ∷ char "T" ∷ int 9 ∷ []) 6 31
    ∷ object "4" (char "P" ∷ char "T" ∷ char "D" ∷ char "T" ∷ char "T" ∷ int 8 ∷ []) 2 37
    -- components: just above 1, below 0, infinite, a NaN; cut comes first
    ∷ object "0" (char "P" ∷ char "R" ∷ float 0x3F80_0001 ∷ []) 9 27
    ∷ object "4" (char "P" ∷ char "R" ∷ floats (0 ∷ 0 ∷ 0 ∷ 0x7FC0_0000 ∷ [])) 9 39
    ∷ object "1" (char "P" ∷ char "C" ∷ floats (0 ∷ 0 ∷ 0 ∷ 0x8000_0001 ∷ [])) 9 39
    ∷ object "2" (char "P" ∷ char "C" ∷ floats (0 ∷ 0 ∷ 0 ∷ 0 ∷ 0x7F80_0000 ∷ [])) 9 43
    ∷ object "3" (text ++ flag 0 ∷ char "R" ∷ floats (0x3F80_0000 ∷ 0xFFC0_0000 ∷ [])) 9 90
    ∷ object "0" (char "P" ∷ char "G" ∷ char "T" ∷ char "R" ∷ float 0xBF80_0000 ∷ []) 9 31
    ∷ object "1" (style ++ byte 1 ∷ float 0 ∷ byte 1 ∷ flag 0 ∷ flag 1 ∷ char "R" ∷ float 0x7F80_0001 ∷ []) 9 50
    ∷ object "4" (char "P" ∷ char "Y" ∷ floats (0 ∷ 0x4000_0000 ∷ [])) 9 31
    ∷ object "2" (char "P" ∷ char "R" ∷ float 0 ∷ byte 0x7F ∷ []) 2 31
    -- hue: 360, a NaN, below 0; the others of S are from 0 to 1
    ∷ object "4" (char "P" ∷ char "S" ∷ float 0x43B4_0000 ∷ []) 9 27
    ∷ object "4" (char "P" ∷ char "S" ∷ float 0x7FC0_0000 ∷ []) 9 27
    ∷ object "4" (char "P" ∷ char "S" ∷ float 0x8000_0001 ∷ []) 9 27
    ∷ object "4" (char "P" ∷ char "S" ∷ floats (0x43B3_FFFF ∷ 0x3F80_0001 ∷ [])) 9 31
    -- accepted: minus zero and 1, and a hue just below 360
    ∷ object "0" (text ++ flag 0 ∷ char "R" ∷ floats (0x8000_0000 ∷ 0x3F80_0000 ∷ 0x8000_0000 ∷ 1 ∷ []) ++ string "a" ∷ flag 0 ∷ flag 0 ∷ []) 0 110
    ∷ object "4" (text ++ flag 0 ∷ char "S" ∷ floats (0x43B3_FFFF ∷ 0x8000_0000 ∷ 0x3F80_0000 ∷ 1 ∷ []) ++ string "a" ∷ flag 0 ∷ string "" ∷ flag 0 ∷ string "" ∷ []) 0 118
    ∷ object "4" (text ++ flag 0 ∷ char "S" ∷ floats (0x8000_0000 ∷ 0 ∷ 0 ∷ 0 ∷ []) ++ string "a" ∷ flag 0 ∷ string "" ∷ flag 0 ∷ string "" ∷ []) 0 118
    ∷ []

-- ---- texts

abbrev texts : List Case
texts =
    object "0" (char "T" ∷ int 0xFFFF_FFFF ∷ []) 8 25
    ∷ object "0" (char "T" ∷ string "" ∷ byte 2 ∷ []) 6 29
    ∷ object "3" (char "T" ∷ string "" ∷ byte 255 ∷ []) 6 29
    ∷ object "2" (char "T" ∷ string "" ∷ byte 1 ∷ byte 2 ∷ []) 6 30
    ∷ object "0" (char "T" ∷ string "" ∷ byte 1 ∷ byte 1 ∷ int 0xFFFF_FFFF ∷ []) 6 31
    ∷ object "4" (char "T" ∷ string "" ∷ byte 1 ∷ byte 1 ∷ int 0x8000_0000 ∷ []) 6 31
    ∷ object "1" (text ++ flag 2 ∷ []) 2 84
    ∷ object "4" (text ++ flag 200 ∷ []) 2 84
    -- LaTeX fields: four strings, horizontal, vertical, alternative
    ∷ object "1" (text ++ flag 1 ∷ times 4 (string "" ∷ []) ++ byte 3 ∷ []) 6 100
    ∷ object "4" (text ++ flag 1 ∷ times 4 (string "" ∷ []) ++ byte 2 ∷ byte 4 ∷ []) 6 101
    ∷ object "2" (text ++ flag 1 ∷ times 4 (string "" ∷ []) ++ byte 2 ∷ byte 3 ∷ int 0xFFFF_FFFF ∷ []) 8 102
    ∷ object "0" (text ++ flag 1 ∷ times 4 (string "" ∷ []) ++ byte 2 ∷ byte 3 ∷ string "" ∷ char "X" ∷ []) 7 106
    -- the text needs a char
    ∷ object "0" (text ++ flag 0 ∷ char "T" ∷ int 0 ∷ []) 8 86
    ∷ object "3" (text ++ flag 0 ∷ char "T" ∷ int 0xFFFF_FFFF ∷ []) 8 86
    ∷ object "4" (text ++ flag 0 ∷ char "T" ∷ int 1 ∷ []) 2 90
    ∷ []

-- ---- texts along paths

abbrev text_paths : List Case
text_paths =
    -- from 1.5 on
    object "4" (char "X" ∷ []) 7 23
    ∷ object "0" (text_path ++ []) 7 23
    ∷ object "5" (char "X" ∷ []) 2 25
    -- the paint comes first, and is no style's
    ∷ object "5" (char "X" ∷ char "P" ∷ []) 7 25
    ∷ object "5" (char "X" ∷ char "S" ∷ float 0x43B4_0000 ∷ []) 9 27
    ∷ object "5" (char "X" ∷ char "T" ∷ int 0xFFFF_FFFF ∷ []) 8 27
    ∷ object "5" (char "X" ∷ char "T" ∷ string "" ∷ byte 2 ∷ []) 6 31
    ∷ object "5" (char "X" ∷ char "T" ∷ string "" ∷ byte 0 ∷ byte 0 ∷ int 0x8000_0000 ∷ []) 6 33
    -- the outline, and cuts in it
    ∷ object "5" (text_path ++ []) 2 92
    ∷ object "5" (text_path ++ char "X" ∷ []) 7 92
    ∷ object "5" (text_path ++ char "C" ∷ int 0 ∷ []) 8 94
    ∷ object "5" (text_path ++ char "O" ∷ int 1 ∷ double 0 ∷ int 0 ∷ []) 2 106
    ∷ object "5" (text_path ++ char "O" ∷ int 1 ∷ double 0 ∷ double 0 ∷ char "P" ∷ []) 7 114
    ∷ object "5" (text_path ++ char "O" ∷ int 1 ∷ double 0 ∷ double 0 ∷ char "L" ∷ double 0 ∷ byte 1 ∷ []) 2 124
    ∷ object "5" (text_path ++ char "C" ∷ int 2 ∷ double 0 ∷ double 0 ∷ char "M" ∷ double 0 ∷ double 0 ∷ []) 2 132
    ∷ object "5" (text_path ++ char "C" ∷ int 1 ∷ double 0 ∷ double 0 ∷ char "M" ∷ double 0 ∷ double 0 ∷ flag 1 ∷ []) 11 132
    ∷ object "5" (text_path ++ char "C" ∷ int 1 ∷ double 0 ∷ double 0 ∷ char "M" ∷ double 0 ∷ double 0 ∷ flag 0 ∷ string "" ∷ flag 0 ∷ string "" ∷ []) 0 142
    ∷ []

-- ---- the statement

abbrev cases : List Case
cases = heads ++ objects ++ paint_cases ++ texts ++ text_paths ++ styles ++ segments

-- A refusal's number and offset; 0 and the file's length for a drawing.
abbrev answered : List ℕ → Reading → ℕ × ℕ
answered bs (drawing d) = (0, length bs)
answered bs (refusal number offset) = (number, offset)

as_expected : map (λ (c : Case). answered c.file (drawing_of c.file)) cases ≡ map (λ (c : Case). (c.number, c.offset)) cases
unfolding from_zero_to from_zero_below le lt of_int of_bits
as_expected = refl
