-- A file of version 1.3 in full: all settings, with a paper that came with 1.3; a path's start point, in place of those of its segments;
-- radial gradients; and what the listing and the two questions answer about it.
use Rattle.std.specs.Prelude.{◌≡◌, refl, true, false, ℕ, List, [], ◌∷◌, ◌++◌, map, pos, negsuc}
use Rattle.std.proofs.Math.Option.{none, some}
use Prim.Native.Char.{code}
use Rattle.std.specs.Float.{fin}
use Rattle.std.specs.Float.Ieee.{le, of_int, of_bits}
use Rattle.format.specs.FloatRange.{from_zero_to}
use Rattle.drawing.specs.declared.Paint.TheVariants as Enum
use Rattle.drawing.specs.declared.PaintAnswer.TheVariants.{Refused, Plain, Radial}
use Rattle.drawing.specs.declared.Which.{Which}
use Rattle.drawing.specs.declared.Which.TheVariants.{Line, Fill, Text as Letters}
use Rattle.drawing.specs.Paint.{transparent, rgb, cmyk, plain, linear, radial}
use Rattle.drawing.specs.Path.{Path, curve, line, move}
use Rattle.drawing.specs.Text.{Text}
use Rattle.drawing.specs.Bitmap.{Bitmap}
use Rattle.drawing.specs.Settings.{Settings, all}
use Rattle.drawing.specs.Object.{path, text, bitmap, leaf, group, of_list}
use Rattle.drawing.specs.Drawing.{Drawing}
use Rattle.drawing.specs.Order.{entries, groups_around}
use Rattle.drawing.specs.Computed.{paint_answer, text_answer}
use Rattle.drawing.specs.examples.Whole.{Whole, Respelled}
use Rattle.drawing.specs.examples.Bytes.{Item, byte, flag, int, float, double, char, string, codes, bytes, words, floats, doubles, head, at, otherwise}

-- ---- the settings

abbrev settings_fields : List Item
settings_fields =
    -- all; grid, lock, rulers; tool, normal size; paper; unit, major and minor division
    byte 1 ∷ flag 0 ∷ flag 0 ∷ flag 1 ∷ int 5 ∷ int 0x8000_0001 ∷ byte 72 ∷ byte 2 ∷ int 0xFFFF_FFFF ∷ int 0x7FFF_FFFF ∷ []

abbrev settings_value : Settings
settings_value =
    all
    (record { grid = 0; lock = 0; rulers = 1; tool = 5; normal_size = 0x8000_0001; paper = record { size = 72; width = 0; height = 0; portrait = 0 }; unit = 2; major = 0xFFFF_FFFF; minor = 0x7FFF_FFFF })

-- ---- row 3: an open path of all three kinds of segment, with two start markers and one end marker

abbrev open_fields : List Item
open_fields =
    -- line paint; fill paint, from one colour to another
    char "R" ∷ floats (0x3F00_0000 ∷ 0x3F80_0000 ∷ 0x3E80_0000 ∷ 0x3F40_0000 ∷ [])
    ++ char "D" ∷ char "R" ∷ floats (0x3E00_0000 ∷ 0x3EC0_0000 ∷ 0x3F20_0000 ∷ 0x3F60_0000 ∷ [])
    ++ char "C" ∷ floats (0x3D80_0000 ∷ 0x3E40_0000 ∷ 0x3EA0_0000 ∷ 0x3EE0_0000 ∷ 0x8000_0000 ∷ []) ++ int 8 ∷ []
    -- width, dash count, lengths, offset; cap, join, mitre limit, winding
    ++ float 0x4000_0001 ∷ int 2 ∷ float 0x4000_0002 ∷ float 0x4000_0003 ∷ float 0x4000_0004 ∷ []
    ++ byte 2 ∷ byte 0 ∷ float 0x4000_0005 ∷ byte 1 ∷ []
    -- start: two markers
    ++ byte 20 ∷ float 0x4000_0006 ∷ byte 3 ∷ flag 0 ∷ flag 0 ∷ float 0x4000_0007 ∷ char "R" ∷ floats (0x3F00_0001 ∷ 0x3F00_0002 ∷ 0x3F00_0003 ∷ 0x3F00_0004 ∷ []) ++ flag 0 ∷ []
    ++ byte 19 ∷ float 0x4000_0008 ∷ byte 2 ∷ flag 1 ∷ flag 1 ∷ char "T" ∷ flag 1 ∷ byte 0 ∷ []
    -- mid: none; end: one marker
    ++ byte 0 ∷ []
    ++ byte 21 ∷ float 0x4000_0009 ∷ byte 1 ∷ flag 1 ∷ flag 0 ∷ float 0x7FC0_000A ∷ char "T" ∷ flag 0 ∷ byte 0 ∷ []
    -- the start point stands behind the count
    ++ char "O" ∷ int 4 ∷ doubles (0x11_0000_0021 ∷ 0x7FF8_0000_0000_0022 ∷ [])
    ++ char "B" ∷ doubles (0x13_0000_0023 ∷ 0x14_0000_0024 ∷ 0x15_0000_0025 ∷ 0x16_0000_0026 ∷ 0x17_0000_0027 ∷ 0x18_0000_0028 ∷ [])
    ++ char "M" ∷ doubles (0x19_0000_0029 ∷ 0x1A_0000_002A ∷ [])
    ++ char "L" ∷ doubles (0x1B_0000_002B ∷ 0x1C_0000_002C ∷ [])
    ++ char "B" ∷ doubles (0x1D_0000_002D ∷ 0x1E_0000_002E ∷ 0x1F_0000_002F ∷ 0x20_0000_0030 ∷ 0x21_0000_0031 ∷ 0x22_0000_0032 ∷ [])
    ++ flag 0 ∷ string "one " ∷ []

abbrev open_value : Path
open_value =
    record {
      line_paint = plain (rgb 0x3F00_0000 0x3F80_0000 0x3E80_0000 0x3F40_0000);
      fill_paint = radial (rgb 0x3E00_0000 0x3EC0_0000 0x3F20_0000 0x3F60_0000) (cmyk 0x3D80_0000 0x3E40_0000 0x3EA0_0000 0x3EE0_0000 0x8000_0000) 8;
      style = record {
        width = 0x4000_0001;
        dashes = 0x4000_0002 ∷ 0x4000_0003 ∷ [];
        dash_offset = 0x4000_0004;
        cap = 2;
        join = 0;
        mitre_limit = 0x4000_0005;
        winding = 1;
        start = record { id = 20; size = 0x4000_0006; double = 0; repeat = 3; reversed = 0; angle = some 0x4000_0007; paint = rgb 0x3F00_0001 0x3F00_0002 0x3F00_0003 0x3F00_0004; overlay = 0; offset = none; repeat_offset = none }
            ∷ record { id = 19; size = 0x4000_0008; double = 0; repeat = 2; reversed = 1; angle = none; paint = transparent; overlay = 1; offset = none; repeat_offset = none }
            ∷ [];
        mid = [];
        end = record { id = 21; size = 0x4000_0009; double = 0; repeat = 1; reversed = 1; angle = some 0x7FC0_000A; paint = transparent; overlay = 0; offset = none; repeat_offset = none } ∷ [];
      };
      outline = record {
        open_or_closed = code "O";
        start = at 0x11_0000_0021 0x7FF8_0000_0000_0022;
        segments = curve (at 0 0) (at 0x13_0000_0023 0x14_0000_0024) (at 0x15_0000_0025 0x16_0000_0026) (at 0x17_0000_0027 0x18_0000_0028)
            ∷ move (at 0 0) (at 0x19_0000_0029 0x1A_0000_002A)
            ∷ line (at 0 0) (at 0x1B_0000_002B 0x1C_0000_002C)
            ∷ curve (at 0 0) (at 0x1D_0000_002D 0x1E_0000_002E) (at 0x1F_0000_002F 0x20_0000_0030) (at 0x21_0000_0031 0x22_0000_0032)
            ∷ [];
      };
    }

-- ---- row 4: a text with LaTeX fields and an empty alternative

abbrev text_fields : List Item
text_fields =
    string "Dialog" ∷ byte 0 ∷ byte 1 ∷ int 11
    ∷ doubles (0x51_0000_0061 ∷ 0x52_0000_0062 ∷ 0x53_0000_0063 ∷ 0x54_0000_0064 ∷ 0x55_0000_0065 ∷ 0x56_0000_0066 ∷ [])
    ++ flag 1 ∷ string "sf" ∷ string "m" ∷ string "n" ∷ string "" ∷ byte 2 ∷ byte 1 ∷ string "" ∷ []
    ++ char "D" ∷ char "T" ∷ char "T" ∷ int 0 ∷ string "words" ∷ flag 0 ∷ string "two" ∷ []

abbrev text_value : Text
text_value =
    record {
      style = record {
        family = codes "Dialog";
        shape = 0;
        series = 1;
        size = 11;
        transformation = 0x51_0000_0061 ∷ 0x52_0000_0062 ∷ 0x53_0000_0063 ∷ 0x54_0000_0064 ∷ 0x55_0000_0065 ∷ 0x56_0000_0066 ∷ [];
        latex = some (record { family = codes "sf"; series = codes "m"; shape = codes "n"; size = []; horizontal = 2; vertical = 1; alternative = [] });
      };
      paint = radial transparent transparent 0;
      text = codes "words";
    }

-- ---- row 5: a bitmap with an empty description

abbrev bitmap_fields : List Item
bitmap_fields =
    string "i" ∷ flag 1 ∷ string "to" ∷ string "by"
    ∷ doubles (0x71_0000_0081 ∷ 0x72_0000_0082 ∷ 0x73_0000_0083 ∷ 0x74_0000_0084 ∷ 0x75_0000_0085 ∷ 0x76_0000_0086 ∷ [])
    ++ flag 0 ∷ string "" ∷ []

abbrev bitmap_value : Bitmap
bitmap_value =
    record {
      name = codes "i";
      latex = some (record { link = codes "to"; command = codes "by" });
      transformation = 0x71_0000_0081 ∷ 0x72_0000_0082 ∷ 0x73_0000_0083 ∷ 0x74_0000_0084 ∷ 0x75_0000_0085 ∷ 0x76_0000_0086 ∷ [];
    }

-- ---- row 7: a closed path with no markers

abbrev closed_fields : List Item
closed_fields =
    char "G" ∷ char "C" ∷ floats (0x3D00_0001 ∷ 0x3D00_0002 ∷ 0x3D00_0003 ∷ 0x3D00_0004 ∷ 0x3D00_0005 ∷ []) ++ char "T" ∷ int 2 ∷ char "T" ∷ []
    ++ float 0x4000_000B ∷ int 0 ∷ byte 0 ∷ byte 2 ∷ byte 0 ∷ byte 0 ∷ byte 0 ∷ byte 0 ∷ []
    ++ char "C" ∷ int 1 ∷ doubles (0x91_0000_00A1 ∷ 0x92_0000_00A2 ∷ []) ++ char "L" ∷ doubles (0x93_0000_00A3 ∷ 0x94_0000_00A4 ∷ [])
    ++ flag 0 ∷ string "last" ∷ []

abbrev closed_value : Path
closed_value =
    record {
      line_paint = linear (cmyk 0x3D00_0001 0x3D00_0002 0x3D00_0003 0x3D00_0004 0x3D00_0005) transparent 2;
      fill_paint = plain transparent;
      style = record { width = 0x4000_000B; dashes = []; dash_offset = 0; cap = 0; join = 2; mitre_limit = 0; winding = 0; start = []; mid = []; end = [] };
      outline = record {
        open_or_closed = code "C";
        start = at 0x91_0000_00A1 0x92_0000_00A2;
        segments = line (at 0 0) (at 0x93_0000_00A3 0x94_0000_00A4) ∷ [];
      };
    }

-- ---- the file: groups are rows 0, 1, 2 and 6; row 6 comes behind the end of row 1

abbrev items : List Item
items =
    head "3" ++ settings_fields
    ++ char "G" ∷ int 3
    ∷ char "G" ∷ int 1
    ∷ char "G" ∷ int 2 ∷ char "P" ∷ open_fields
    ++ char "T" ∷ text_fields
    ++ flag 0 ∷ string "inner" ∷ flag 0 ∷ string "one" ∷ char "I" ∷ bitmap_fields
    ++ char "G" ∷ int 1 ∷ char "P" ∷ closed_fields
    ++ flag 0 ∷ string "one" ∷ flag 0 ∷ string "" ∷ []

abbrev file : List ℕ
file = bytes items

abbrev tree : Drawing
tree =
    record {
      version = 3;
      settings = settings_value;
      members = of_list
          (group (of_list (group (of_list (leaf (path open_value) (codes "one ") ∷ leaf (text text_value) (codes "two") ∷ [])) (codes "inner") ∷ [])) (codes "one")
          ∷ leaf (bitmap bitmap_value) []
          ∷ group (of_list (leaf (path closed_value) (codes "last") ∷ [])) (codes "one")
          ∷ []);
      description = [];
    }

-- Kind, parent, start and length of each row.
abbrev contents : List ℕ
contents =
    1 ∷ 0 ∷ 243 ∷ 3
    ∷ 1 ∷ 0 ∷ 173 ∷ 6
    ∷ 1 ∷ 1 ∷ 165 ∷ 8
    ∷ 2 ∷ 2 ∷ 11 ∷ 105
    ∷ 3 ∷ 2 ∷ 116 ∷ 49
    ∷ 4 ∷ 0 ∷ 179 ∷ 23
    ∷ 1 ∷ 0 ∷ 237 ∷ 6
    ∷ 2 ∷ 6 ∷ 202 ∷ 35
    ∷ []

-- The minor version and the settings; then rows 3, 4, 2, 1, 5, 7, 6 and 0, as the objects end.
abbrev body_items : List Item
body_items =
    int 3 ∷ settings_fields
    ++ open_fields ++ text_fields ++ int 2 ∷ flag 0 ∷ string "inner" ∷ []
    ++ int 1 ∷ flag 0 ∷ string "one" ∷ []
    ++ bitmap_fields ++ closed_fields ++ int 1 ∷ flag 0 ∷ string "one" ∷ [] ++ int 3 ∷ flag 0 ∷ string "" ∷ []

abbrev bodies : List ℕ
bodies = words body_items

whole : Whole file tree contents bodies
unfolding from_zero_to le of_int of_bits
whole = record { reads = refl; writes = refl; rows = refl; words = refl; back = refl }

respelled : Respelled (bytes (map otherwise items)) file tree contents (words (map otherwise body_items))
unfolding from_zero_to le of_int of_bits
respelled = record { reads = refl; made = refl; strict = refl }

-- ---- answers

labels : map (λ label. entries label tree) (codes "one" ∷ [] ∷ codes "inner" ∷ codes "One" ∷ []) ≡ (1 ∷ 6 ∷ []) ∷ (0 ∷ 5 ∷ []) ∷ (2 ∷ []) ∷ [] ∷ []
labels = refl

around : groups_around tree ≡ [] ∷ (0 ∷ []) ∷ (1 ∷ 0 ∷ []) ∷ (2 ∷ 1 ∷ 0 ∷ []) ∷ (2 ∷ 1 ∷ 0 ∷ []) ∷ (0 ∷ []) ∷ (0 ∷ []) ∷ (6 ∷ 0 ∷ []) ∷ []
around = refl

paints : map (λ (q : ℕ × Which). paint_answer contents bodies q.0 q.1) ((3, Line) ∷ (3, Fill) ∷ (4, Letters) ∷ (7, Fill) ∷ (6, Fill) ∷ [])
    ≡ Plain (Enum.Rgb (fin false 1 (negsuc 0)) (fin false 1 (pos 0)) (fin false 1 (negsuc 1)) (fin false 3 (negsuc 1)))
    ∷ Radial
    (Enum.Rgb (fin false 1 (negsuc 2)) (fin false 3 (negsuc 2)) (fin false 5 (negsuc 2)) (fin false 7 (negsuc 2)))
    (Enum.Cmyk (fin false 1 (negsuc 3)) (fin false 3 (negsuc 3)) (fin false 5 (negsuc 3)) (fin false 7 (negsuc 3)) (fin true 0 (pos 0)))
    8
    ∷ Radial Enum.Transparent Enum.Transparent 0
    ∷ Plain Enum.Transparent
    ∷ Refused 7 ∷ []
unfolding from_zero_to le of_int of_bits
paints = refl

-- The alternative is empty and starts one past its length word.
texts : text_answer contents bodies 4
    ≡ record { number = 0; alternative = record { start = 150; length = 0 }; text = record { start = 155; length = 5 } }
unfolding from_zero_to le of_int of_bits
texts = refl
