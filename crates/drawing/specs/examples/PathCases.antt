-- Cases of paths: their line styles, markers and segments (01, 'Line style', 'Object', 'Numbers given back').
use Rattle.std.specs.Prelude.{List, [], ◌∷◌, ◌++◌}
use Rattle.drawing.specs.examples.Bytes.{byte, flag, int, float, double, char, string, doubles}
use Rattle.drawing.specs.examples.Cases.{Case, times, object, paints, style, marker, outline, outline3}

-- ---- line styles and markers

abbrev pub styles : List Case
styles =
    -- dash counts
    object "0" (paints ++ float 0 ∷ int 1 ∷ float 0 ∷ []) 8 33
    ∷ object "4" (paints ++ float 0 ∷ int 3 ∷ []) 8 33
    ∷ object "1" (paints ++ float 0 ∷ int 0xFFFF_FFFE ∷ []) 8 33
    ∷ object "3" (paints ++ float 0 ∷ int 0xFFFF_FFFF ∷ []) 8 33
    ∷ object "2" (paints ++ float 0 ∷ int 2 ∷ float 0 ∷ []) 2 41
    ∷ object "2" (paints ++ float 0 ∷ int 2 ∷ float 0 ∷ float 0 ∷ []) 2 45
    -- cap, join, winding; with join 0 the mitre limit stands before the winding
    ∷ object "0" (paints ++ float 0 ∷ int 0 ∷ byte 3 ∷ []) 6 37
    ∷ object "4" (paints ++ float 0 ∷ int 0 ∷ byte 2 ∷ byte 3 ∷ []) 6 38
    ∷ object "1" (paints ++ float 0 ∷ int 0 ∷ byte 2 ∷ byte 2 ∷ byte 2 ∷ []) 6 39
    ∷ object "3" (paints ++ float 0 ∷ int 0 ∷ byte 2 ∷ byte 0 ∷ float 0 ∷ byte 255 ∷ []) 6 43
    ∷ object "0" (paints ++ float 0 ∷ int 0 ∷ byte 2 ∷ byte 0 ∷ byte 0 ∷ []) 2 39
    -- marker ids
    ∷ object "0" (style ++ byte 8 ∷ []) 6 40
    ∷ object "1" (style ++ byte 22 ∷ []) 6 40
    ∷ object "3" (style ++ byte 0 ∷ byte 22 ∷ []) 6 41
    ∷ object "4" (style ++ byte 0 ∷ byte 0 ∷ byte 80 ∷ []) 6 42
    ∷ object "4" (style ++ byte 255 ∷ []) 6 40
    -- 1.0: size, double, reversed; no mid marker, so that the char O or C is at 42
    ∷ object "0" (style ++ byte 7 ∷ float 0 ∷ flag 2 ∷ []) 2 46
    ∷ object "0" (style ++ byte 7 ∷ float 0 ∷ flag 1 ∷ flag 2 ∷ []) 2 47
    ∷ object "0" (style ++ byte 7 ∷ float 0 ∷ flag 1 ∷ flag 1 ∷ byte 8 ∷ []) 6 47
    ∷ object "0" (style ++ byte 0 ∷ byte 0 ∷ char "B" ∷ []) 7 42
    ∷ object "1" (style ++ byte 0 ∷ byte 0 ∷ byte 0 ∷ char "B" ∷ []) 7 43
    -- from 1.1: size, repeat, reversed, auto-orient, angle, paint, overlay
    ∷ object "1" (style ++ byte 21 ∷ float 0 ∷ byte 0 ∷ []) 6 45
    ∷ object "4" (style ++ byte 79 ∷ float 0 ∷ byte 4 ∷ []) 6 45
    ∷ object "2" (style ++ byte 1 ∷ float 0 ∷ byte 3 ∷ flag 2 ∷ []) 2 47
    ∷ object "3" (style ++ byte 1 ∷ float 0 ∷ byte 3 ∷ flag 0 ∷ flag 2 ∷ []) 2 48
    ∷ object "1" (style ++ byte 1 ∷ float 0 ∷ byte 3 ∷ flag 0 ∷ flag 0 ∷ []) 2 48
    ∷ object "1" (style ++ byte 1 ∷ float 0 ∷ byte 3 ∷ flag 0 ∷ flag 1 ∷ char "T" ∷ flag 2 ∷ []) 2 51
    -- behind the overlay: in 1.4 the offsets' flags if it is 0, and otherwise the next marker
    ∷ object "3" (style ++ byte 1 ∷ float 0 ∷ byte 3 ∷ flag 0 ∷ flag 1 ∷ char "T" ∷ flag 0 ∷ byte 22 ∷ []) 6 51
    ∷ object "4" (style ++ byte 1 ∷ float 0 ∷ byte 3 ∷ flag 0 ∷ flag 1 ∷ char "T" ∷ flag 0 ∷ flag 2 ∷ []) 2 52
    ∷ object "4" (style ++ byte 1 ∷ float 0 ∷ byte 3 ∷ flag 0 ∷ flag 1 ∷ char "T" ∷ flag 0 ∷ flag 0 ∷ flag 2 ∷ []) 2 53
    ∷ object "4" (style ++ byte 1 ∷ float 0 ∷ byte 3 ∷ flag 0 ∷ flag 1 ∷ char "T" ∷ flag 0 ∷ flag 1 ∷ float 0 ∷ flag 2 ∷ []) 2 57
    ∷ object "4" (style ++ byte 1 ∷ float 0 ∷ byte 3 ∷ flag 0 ∷ flag 1 ∷ char "T" ∷ flag 1 ∷ byte 80 ∷ []) 6 51
    -- four markers and five, in each of the three chains; an id that is not in the list comes before 10
    ∷ object "1" (style ++ times 4 marker ++ byte 21 ∷ []) 10 84
    ∷ object "4" (style ++ times 4 marker ++ byte 79 ∷ []) 10 84
    ∷ object "2" (style ++ byte 0 ∷ times 4 marker ++ marker) 10 85
    ∷ object "3" (style ++ marker ++ byte 0 ∷ marker ++ byte 0 ∷ times 4 marker ++ byte 1 ∷ []) 10 108
    ∷ object "3" (style ++ times 4 marker ++ byte 22 ∷ []) 6 84
    ∷ object "4" (style ++ times 4 marker ++ byte 80 ∷ []) 6 84
    ∷ object "2" (style ++ times 4 marker) 2 84
    ∷ object "1" (style ++ times 3 (times 4 marker ++ byte 0 ∷ []) ++ char "O" ∷ int 1 ∷ char "L" ∷ doubles (0 ∷ 0 ∷ 0 ∷ 0 ∷ []) ++ flag 0 ∷ flag 0 ∷ []) 0 217
    ∷ object "4" (style ++ times 3 (times 4 marker ++ byte 0 ∷ []) ++ char "C" ∷ int 1 ∷ doubles (0 ∷ 0 ∷ []) ++ char "M" ∷ doubles (0 ∷ 0 ∷ []) ++ times 2 (flag 0 ∷ string "" ∷ [])) 0 225
    ∷ []

-- ---- segments: below 1.3 the second one of the lines below is at 82 in 1.0 and at 83 in 1.1 and 1.2

abbrev pub segments : List Case
segments =
    object "0" (outline "O" ++ int 0 ∷ []) 8 44
    ∷ object "4" (outline3 "C" ++ int 0xFFFF_FFFF ∷ []) 8 45
    ∷ object "2" (outline3 "O" ++ int 1 ∷ char "Q" ∷ []) 7 49
    ∷ object "3" (outline3 "O" ++ int 1 ∷ doubles (0 ∷ 0 ∷ []) ++ char "C" ∷ []) 7 65
    ∷ object "4" (outline3 "O" ++ int 1 ∷ double 0 ∷ byte 0 ∷ []) 2 57
    -- the next segment is missing, from 1.3 on behind one point
    ∷ object "3" (outline3 "O" ++ int 2 ∷ doubles (0 ∷ 0 ∷ []) ++ char "L" ∷ doubles (0 ∷ 0 ∷ [])) 2 83
    ∷ object "0" (outline "C" ++ int 2 ∷ char "M" ∷ doubles (1 ∷ 2 ∷ 3 ∷ 4 ∷ [])) 2 82
    -- a start that does not join: at x, at y, by the sign of zero, and at the point of an M and not its start
    ∷ object "0" (outline "O" ++ int 2 ∷ char "L" ∷ doubles (1 ∷ 2 ∷ 3 ∷ 4 ∷ []) ++ char "L" ∷ doubles (5 ∷ 4 ∷ 6 ∷ 7 ∷ [])) 12 84
    ∷ object "2" (outline3 "O" ++ int 2 ∷ char "L" ∷ doubles (1 ∷ 2 ∷ 3 ∷ 4 ∷ []) ++ char "L" ∷ doubles (3 ∷ 5 ∷ 6 ∷ 7 ∷ [])) 12 93
    ∷ object "1" (outline3 "O" ++ int 2 ∷ char "L" ∷ doubles (0 ∷ 0 ∷ 0 ∷ 0 ∷ []) ++ char "L" ∷ doubles (0 ∷ 0x8000_0000_0000_0000 ∷ [])) 12 93
    ∷ object "0" (outline "O" ++ int 2 ∷ char "M" ∷ doubles (1 ∷ 2 ∷ 3 ∷ 4 ∷ []) ++ char "B" ∷ doubles (1 ∷ 2 ∷ [])) 12 84
    -- two NaNs of which one is signalling; and behind a B, which ends at its last point
    ∷ object "2" (outline3 "O" ++ int 2 ∷ char "L" ∷ doubles (1 ∷ 2 ∷ 0x7FF8_0000_0000_0001 ∷ 4 ∷ []) ++ char "M" ∷ doubles (0x7FF0_0000_0000_0001 ∷ 4 ∷ [])) 12 85
    ∷ object "1" (outline3 "O" ++ int 2 ∷ char "B" ∷ doubles (1 ∷ 2 ∷ 3 ∷ 4 ∷ 5 ∷ 6 ∷ 7 ∷ 8 ∷ []) ++ char "L" ∷ doubles (7 ∷ 6 ∷ [])) 12 125
    -- x does not join and y is cut; x joins and y is cut; x is cut
    ∷ object "1" (outline3 "O" ++ int 2 ∷ char "L" ∷ doubles (1 ∷ 2 ∷ 3 ∷ 4 ∷ []) ++ char "L" ∷ double 5 ∷ byte 0 ∷ []) 12 85
    ∷ object "0" (outline "O" ++ int 2 ∷ char "L" ∷ doubles (1 ∷ 2 ∷ 3 ∷ 4 ∷ []) ++ char "L" ∷ double 3 ∷ byte 1 ∷ []) 2 92
    ∷ object "2" (outline3 "O" ++ int 2 ∷ char "L" ∷ doubles (1 ∷ 2 ∷ 3 ∷ 4 ∷ []) ++ char "L" ∷ int 9 ∷ []) 2 85
    -- a path's own flow flag
    ∷ object "0" (outline "O" ++ int 1 ∷ char "L" ∷ doubles (1 ∷ 2 ∷ 3 ∷ 4 ∷ []) ++ flag 1 ∷ []) 11 82
    ∷ object "4" (outline3 "O" ++ int 1 ∷ doubles (1 ∷ 2 ∷ []) ++ char "L" ∷ doubles (3 ∷ 4 ∷ []) ++ flag 1 ∷ []) 11 83
    ∷ []
