-- A file of version 1.4 in full: of the settings the paper alone; grey and HSB paints, plain, in gradients and in markers; the offsets of
-- markers; and what the listing and the two questions answer about it.
use Rattle.std.specs.Prelude.{◌≡◌, refl, true, false, ℕ, List, [], ◌∷◌, ◌++◌, map, pos, negsuc}
use Rattle.std.proofs.Math.Option.{none, some}
use Prim.Native.Char.{code}
use Rattle.std.specs.Float.{fin}
use Rattle.std.specs.Float.Ieee.{le, lt, of_int, of_bits}
use Rattle.format.specs.FloatRange.{from_zero_to, from_zero_below}
use Rattle.drawing.specs.declared.Paint.TheVariants as Enum
use Rattle.drawing.specs.declared.PaintAnswer.TheVariants.{Refused, Plain, Linear, Radial}
use Rattle.drawing.specs.declared.Which.{Which}
use Rattle.drawing.specs.declared.Which.TheVariants.{Line, Fill, Text as Letters}
use Rattle.drawing.specs.Paint.{transparent, rgb, cmyk, grey, hsb, plain, linear, radial}
use Rattle.drawing.specs.Path.{Path, curve, line, move}
use Rattle.drawing.specs.Text.{Text}
use Rattle.drawing.specs.Bitmap.{Bitmap}
use Rattle.drawing.specs.Settings.{paper_only}
use Rattle.drawing.specs.Object.{path, text, bitmap, leaf, group, of_list}
use Rattle.drawing.specs.Drawing.{Drawing}
use Rattle.drawing.specs.Order.{entries, groups_around}
use Rattle.drawing.specs.Computed.{paint_answer, text_answer}
use Rattle.drawing.specs.examples.Whole.{Whole, Respelled}
use Rattle.drawing.specs.examples.Bytes.{Item, byte, flag, int, float, double, char, string, codes, bytes, words, floats, doubles, head, at, otherwise}

-- ---- the settings: paper only, of its own size, and no portrait flag

abbrev settings_fields : List Item
settings_fields =
    byte 2 ∷ byte 18 ∷ double 0x4072_C000_0000_0001 ∷ double 0xC082_C000_0000_0002 ∷ []

-- ---- row 3: an open path with grey and HSB paints and many markers

abbrev marked_fields : List Item
marked_fields =
    char "Y" ∷ floats (0x3F00_0000 ∷ 0x3F80_0000 ∷ [])
    ++ char "S" ∷ floats (0x4334_0000 ∷ 0x3E80_0000 ∷ 0x3F40_0000 ∷ 0x3E00_0000 ∷ [])
    -- width, dash count; cap, join, mitre limit, winding
    ++ float 0x4000_0001 ∷ int 0 ∷ byte 1 ∷ byte 0 ∷ float 0x4000_0002 ∷ byte 0 ∷ []
    -- start: behind an overlay of 0 stand two flags, each with an offset if it is 1
    ++ byte 79 ∷ float 0x4000_0003 ∷ byte 1 ∷ flag 0 ∷ flag 1 ∷ char "Y" ∷ floats (0x3F00_0001 ∷ 0x3F00_0002 ∷ []) ++ flag 0 ∷ flag 0 ∷ flag 0 ∷ []
    ++ byte 78 ∷ float 0x4000_0004 ∷ byte 2 ∷ flag 1 ∷ flag 0 ∷ float 0x4000_0005 ∷ char "S" ∷ floats (0x43B3_FFFF ∷ 0x3F00_0003 ∷ 0x3F00_0004 ∷ 0x3F00_0005 ∷ [])
    ++ flag 0 ∷ flag 1 ∷ float 0x4000_0006 ∷ flag 0 ∷ []
    ++ byte 22 ∷ float 0x4000_0007 ∷ byte 3 ∷ flag 0 ∷ flag 1 ∷ char "T" ∷ flag 0 ∷ flag 0 ∷ flag 1 ∷ float 0x4000_0008 ∷ []
    ++ byte 23 ∷ float 0x4000_0009 ∷ byte 1 ∷ flag 1 ∷ flag 0 ∷ float 0x4000_000A ∷ char "R" ∷ floats (0x3F00_0006 ∷ 0x3F00_0007 ∷ 0x3F00_0008 ∷ 0x3F00_0009 ∷ [])
    ++ flag 0 ∷ flag 1 ∷ float 0x4000_000B ∷ flag 1 ∷ float 0x4000_000C ∷ byte 0 ∷ []
    -- mid and end: behind an overlay of 1 stands the next marker
    ++ byte 24 ∷ float 0x4000_000D ∷ byte 2 ∷ flag 0 ∷ flag 1 ∷ char "C" ∷ floats (0x3F00_000A ∷ 0x3F00_000B ∷ 0x3F00_000C ∷ 0x3F00_000D ∷ 0x3F00_000E ∷ []) ++ flag 1 ∷ byte 0 ∷ []
    ++ byte 25 ∷ float 0x4000_000E ∷ byte 3 ∷ flag 1 ∷ flag 1 ∷ char "T" ∷ flag 1 ∷ []
    ++ byte 26 ∷ float 0x4000_000F ∷ byte 1 ∷ flag 0 ∷ flag 1 ∷ char "T" ∷ flag 0 ∷ flag 1 ∷ float 0x4000_0010 ∷ flag 0 ∷ byte 0 ∷ []
    ++ char "O" ∷ int 1 ∷ doubles (0x11_0000_0021 ∷ 0x12_0000_0022 ∷ []) ++ char "M" ∷ doubles (0x13_0000_0023 ∷ 0x14_0000_0024 ∷ [])
    ++ flag 0 ∷ string "" ∷ []

abbrev marked_value : Path
marked_value =
    record {
      line_paint = plain (grey 0x3F00_0000 0x3F80_0000);
      fill_paint = plain (hsb 0x4334_0000 0x3E80_0000 0x3F40_0000 0x3E00_0000);
      style = record {
        width = 0x4000_0001;
        dashes = [];
        dash_offset = 0;
        cap = 1;
        join = 0;
        mitre_limit = 0x4000_0002;
        winding = 0;
        start = record { id = 79; size = 0x4000_0003; double = 0; repeat = 1; reversed = 0; angle = none; paint = grey 0x3F00_0001 0x3F00_0002; overlay = 0; offset = none; repeat_offset = none }
            ∷ record { id = 78; size = 0x4000_0004; double = 0; repeat = 2; reversed = 1; angle = some 0x4000_0005; paint = hsb 0x43B3_FFFF 0x3F00_0003 0x3F00_0004 0x3F00_0005; overlay = 0; offset = some 0x4000_0006; repeat_offset = none }
            ∷ record { id = 22; size = 0x4000_0007; double = 0; repeat = 3; reversed = 0; angle = none; paint = transparent; overlay = 0; offset = none; repeat_offset = some 0x4000_0008 }
            ∷ record { id = 23; size = 0x4000_0009; double = 0; repeat = 1; reversed = 1; angle = some 0x4000_000A; paint = rgb 0x3F00_0006 0x3F00_0007 0x3F00_0008 0x3F00_0009; overlay = 0; offset = some 0x4000_000B; repeat_offset = some 0x4000_000C }
            ∷ [];
        mid = record { id = 24; size = 0x4000_000D; double = 0; repeat = 2; reversed = 0; angle = none; paint = cmyk 0x3F00_000A 0x3F00_000B 0x3F00_000C 0x3F00_000D 0x3F00_000E; overlay = 1; offset = none; repeat_offset = none } ∷ [];
        end = record { id = 25; size = 0x4000_000E; double = 0; repeat = 3; reversed = 1; angle = none; paint = transparent; overlay = 1; offset = none; repeat_offset = none }
            ∷ record { id = 26; size = 0x4000_000F; double = 0; repeat = 1; reversed = 0; angle = none; paint = transparent; overlay = 0; offset = some 0x4000_0010; repeat_offset = none }
            ∷ [];
      };
      outline = record {
        open_or_closed = code "O";
        start = at 0x11_0000_0021 0x12_0000_0022;
        segments = move (at 0 0) (at 0x13_0000_0023 0x14_0000_0024) ∷ [];
      };
    }

-- ---- row 4: a closed path with a linear and a radial gradient

abbrev gradient_fields : List Item
gradient_fields =
    char "G" ∷ char "Y" ∷ floats (0x3EC0_0000 ∷ 0x3F20_0000 ∷ []) ++ char "S" ∷ floats (0x8000_0000 ∷ 0x3F60_0000 ∷ 0x3D80_0000 ∷ 0x3E40_0000 ∷ []) ++ int 7 ∷ []
    ++ char "D" ∷ char "S" ∷ floats (0x0000_0000 ∷ 0x3EA0_0000 ∷ 0x3EE0_0000 ∷ 0x3F10_0000 ∷ []) ++ char "Y" ∷ floats (0x3F30_0000 ∷ 0x3F50_0000 ∷ []) ++ int 5 ∷ []
    ++ float 0x4100_0001 ∷ int 2 ∷ float 0x4100_0002 ∷ float 0x4100_0003 ∷ float 0x4100_0004 ∷ byte 2 ∷ byte 1 ∷ byte 1 ∷ byte 0 ∷ byte 0 ∷ byte 0 ∷ []
    ++ char "C" ∷ int 3 ∷ doubles (0x31_0000_0041 ∷ 0x32_0000_0042 ∷ [])
    ++ char "L" ∷ doubles (0x33_0000_0043 ∷ 0x34_0000_0044 ∷ [])
    ++ char "B" ∷ doubles (0x35_0000_0045 ∷ 0x36_0000_0046 ∷ 0x37_0000_0047 ∷ 0x38_0000_0048 ∷ 0x39_0000_0049 ∷ 0x3A_0000_004A ∷ [])
    ++ char "L" ∷ doubles (0x3B_0000_004B ∷ 0x3C_0000_004C ∷ [])
    ++ flag 0 ∷ string "a" ∷ []

abbrev gradient_value : Path
gradient_value =
    record {
      line_paint = linear (grey 0x3EC0_0000 0x3F20_0000) (hsb 0x8000_0000 0x3F60_0000 0x3D80_0000 0x3E40_0000) 7;
      fill_paint = radial (hsb 0x0000_0000 0x3EA0_0000 0x3EE0_0000 0x3F10_0000) (grey 0x3F30_0000 0x3F50_0000) 5;
      style = record { width = 0x4100_0001; dashes = 0x4100_0002 ∷ 0x4100_0003 ∷ []; dash_offset = 0x4100_0004; cap = 2; join = 1; mitre_limit = 0; winding = 1; start = []; mid = []; end = [] };
      outline = record {
        open_or_closed = code "C";
        start = at 0x31_0000_0041 0x32_0000_0042;
        segments = line (at 0 0) (at 0x33_0000_0043 0x34_0000_0044)
            ∷ curve (at 0 0) (at 0x35_0000_0045 0x36_0000_0046) (at 0x37_0000_0047 0x38_0000_0048) (at 0x39_0000_0049 0x3A_0000_004A)
            ∷ line (at 0 0) (at 0x3B_0000_004B 0x3C_0000_004C)
            ∷ [];
      };
    }

-- ---- row 5: a text with an alternative

abbrev text_fields : List Item
text_fields =
    string "Times" ∷ byte 1 ∷ byte 0 ∷ int 10
    ∷ doubles (0x51_0000_0061 ∷ 0x52_0000_0062 ∷ 0x53_0000_0063 ∷ 0x54_0000_0064 ∷ 0x55_0000_0065 ∷ 0x56_0000_0066 ∷ [])
    ++ flag 1 ∷ string "p" ∷ string "qq" ∷ string "rrr" ∷ string "ssss" ∷ byte 1 ∷ byte 3 ∷ string "$y$" ∷ []
    ++ char "Y" ∷ floats (0x3F70_0000 ∷ 0x0000_0001 ∷ []) ++ string "why" ∷ flag 0 ∷ string "ab" ∷ []

abbrev text_value : Text
text_value =
    record {
      style = record {
        family = codes "Times";
        shape = 1;
        series = 0;
        size = 10;
        transformation = 0x51_0000_0061 ∷ 0x52_0000_0062 ∷ 0x53_0000_0063 ∷ 0x54_0000_0064 ∷ 0x55_0000_0065 ∷ 0x56_0000_0066 ∷ [];
        latex = some (record { family = codes "p"; series = codes "qq"; shape = codes "rrr"; size = codes "ssss"; horizontal = 1; vertical = 3; alternative = codes "$y$" });
      };
      paint = plain (grey 0x3F70_0000 0x0000_0001);
      text = codes "why";
    }

-- ---- row 6: a bitmap

abbrev bitmap_fields : List Item
bitmap_fields =
    string "i" ∷ flag 0 ∷ doubles (0x71_0000_0081 ∷ 0x72_0000_0082 ∷ 0x73_0000_0083 ∷ 0x74_0000_0084 ∷ 0x75_0000_0085 ∷ 0x76_0000_0086 ∷ [])
    ++ flag 0 ∷ string "c" ∷ []

abbrev bitmap_value : Bitmap
bitmap_value =
    record { name = codes "i"; latex = none; transformation = 0x71_0000_0081 ∷ 0x72_0000_0082 ∷ 0x73_0000_0083 ∷ 0x74_0000_0084 ∷ 0x75_0000_0085 ∷ 0x76_0000_0086 ∷ [] }

-- ---- the file: groups are rows 0, 1 and 2

abbrev items : List Item
items =
    head "4" ++ settings_fields
    ++ char "G" ∷ int 3
    ∷ char "G" ∷ int 2
    ∷ char "G" ∷ int 1 ∷ char "P" ∷ marked_fields
    ++ flag 0 ∷ string "c" ∷ char "P" ∷ gradient_fields
    ++ flag 0 ∷ string "bb" ∷ char "T" ∷ text_fields
    ++ char "I" ∷ bitmap_fields
    ++ flag 0 ∷ string "a" ∷ []

abbrev file : List ℕ
file = bytes items

abbrev tree : Drawing
tree =
    record {
      version = 4;
      settings = paper_only (record { size = 18; width = 0x4072_C000_0000_0001; height = 0xC082_C000_0000_0002; portrait = 0 });
      members = of_list
          (group (of_list (group (of_list (leaf (path marked_value) [] ∷ [])) (codes "c") ∷ leaf (path gradient_value) (codes "a") ∷ [])) (codes "bb")
          ∷ leaf (text text_value) (codes "ab")
          ∷ leaf (bitmap bitmap_value) (codes "c")
          ∷ []);
      description = codes "a";
    }

-- Kind, parent, start and length of each row.
abbrev contents : List ℕ
contents =
    1 ∷ 0 ∷ 261 ∷ 4
    ∷ 1 ∷ 0 ∷ 185 ∷ 5
    ∷ 1 ∷ 1 ∷ 118 ∷ 4
    ∷ 2 ∷ 2 ∷ 7 ∷ 111
    ∷ 2 ∷ 1 ∷ 122 ∷ 63
    ∷ 3 ∷ 0 ∷ 190 ∷ 53
    ∷ 4 ∷ 0 ∷ 243 ∷ 18
    ∷ []

-- The minor version and the settings; then rows 3, 2, 4, 1, 5, 6 and 0, as the objects end.
abbrev body_items : List Item
body_items =
    int 4 ∷ settings_fields
    ++ marked_fields ++ int 1 ∷ flag 0 ∷ string "c" ∷ []
    ++ gradient_fields ++ int 2 ∷ flag 0 ∷ string "bb" ∷ []
    ++ text_fields ++ bitmap_fields ++ int 3 ∷ flag 0 ∷ string "a" ∷ []

abbrev bodies : List ℕ
bodies = words body_items

whole : Whole file tree contents bodies
unfolding from_zero_to from_zero_below le lt of_int of_bits
whole = record { reads = refl; writes = refl; rows = refl; words = refl; back = refl }

respelled : Respelled (bytes (map otherwise items)) file tree contents (words (map otherwise body_items))
unfolding from_zero_to from_zero_below le lt of_int of_bits
respelled = record { reads = refl; made = refl; strict = refl }

-- ---- answers

labels : map (λ label. entries label tree) (codes "a" ∷ [] ∷ codes "c" ∷ codes "b" ∷ []) ≡ (0 ∷ 4 ∷ []) ∷ (3 ∷ []) ∷ (2 ∷ 6 ∷ []) ∷ [] ∷ []
labels = refl

around : groups_around tree ≡ [] ∷ (0 ∷ []) ∷ (1 ∷ 0 ∷ []) ∷ (2 ∷ 1 ∷ 0 ∷ []) ∷ (1 ∷ 0 ∷ []) ∷ (0 ∷ []) ∷ (0 ∷ []) ∷ []
around = refl

paints : map (λ (q : ℕ × Which). paint_answer contents bodies q.0 q.1) ((3, Line) ∷ (3, Fill) ∷ (4, Line) ∷ (4, Fill) ∷ (5, Letters) ∷ (5, Line) ∷ [])
    ≡ Plain (Enum.Grey (fin false 1 (negsuc 0)) (fin false 1 (pos 0)))
    ∷ Plain (Enum.Hsb (fin false 45 (pos 2)) (fin false 1 (negsuc 1)) (fin false 3 (negsuc 1)) (fin false 1 (negsuc 2)))
    ∷ Linear
    (Enum.Grey (fin false 3 (negsuc 2)) (fin false 5 (negsuc 2)))
    (Enum.Hsb (fin true 0 (pos 0)) (fin false 7 (negsuc 2)) (fin false 1 (negsuc 3)) (fin false 3 (negsuc 3)))
    7
    ∷ Radial
    (Enum.Hsb (fin false 0 (pos 0)) (fin false 5 (negsuc 3)) (fin false 7 (negsuc 3)) (fin false 9 (negsuc 3)))
    (Enum.Grey (fin false 11 (negsuc 3)) (fin false 13 (negsuc 3)))
    5
    ∷ Plain (Enum.Grey (fin false 15 (negsuc 3)) (fin false 1 (negsuc 148)))
    ∷ Refused 7 ∷ []
unfolding from_zero_to from_zero_below le lt of_int of_bits
paints = refl

-- The places of the alternative and of the text.
texts : text_answer contents bodies 5
    ≡ record { number = 0; alternative = record { start = 229; length = 3 }; text = record { start = 236; length = 3 } }
unfolding from_zero_to from_zero_below le lt of_int of_bits
texts = refl
