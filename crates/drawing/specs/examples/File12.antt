-- A file of version 1.2 in full: all settings, with a paper from the list; descriptions, a group's own behind its objects; four levels of
-- groups; and what the listing and the two questions answer about it.
use Rattle.std.specs.Prelude.{◌≡◌, refl, true, false, ℕ, List, [], ◌∷◌, ◌++◌, map, pos, negsuc, replicate}
use Rattle.std.proofs.Math.Option.{none, some}
use Prim.Native.Char.{code}
use Rattle.std.specs.Float.{fin}
use Rattle.std.specs.Float.Ieee.{le, of_int, of_bits}
use Rattle.format.specs.FloatRange.{from_zero_to}
use Rattle.drawing.specs.declared.Paint.TheVariants as Enum
use Rattle.drawing.specs.declared.PaintAnswer.TheVariants.{Refused, Plain, Linear}
use Rattle.drawing.specs.declared.Which.{Which}
use Rattle.drawing.specs.declared.Which.TheVariants.{Line, Fill, Text as Letters}
use Rattle.drawing.specs.Paint.{transparent, rgb, cmyk, plain, linear}
use Rattle.drawing.specs.Path.{Path, line, move}
use Rattle.drawing.specs.Text.{Text}
use Rattle.drawing.specs.Bitmap.{Bitmap}
use Rattle.drawing.specs.Settings.{Settings, all}
use Rattle.drawing.specs.Object.{path, text, bitmap, leaf, group, of_list}
use Rattle.drawing.specs.Drawing.{Drawing}
use Rattle.drawing.specs.Order.{entries, groups_around}
use Rattle.drawing.specs.Answers.{answer}
use Rattle.drawing.specs.Computed.{read_result, check_answer, list_output, paint_answer, text_answer, description_answer}
use Rattle.drawing.specs.examples.Whole.{Whole, Respelled}
use Rattle.drawing.specs.examples.Bytes.{Item, byte, flag, int, float, double, char, string, coded, codes, bytes, words, floats, doubles, head, at, otherwise}

-- ---- the settings

abbrev settings_fields : List Item
settings_fields =
    -- grid, lock, rulers; tool, normal size; paper; unit, major and minor division
    flag 1 ∷ flag 0 ∷ flag 1 ∷ flag 0 ∷ int 6 ∷ int 24 ∷ byte 17 ∷ byte 0 ∷ int 3 ∷ int 5 ∷ []

abbrev settings_value : Settings
settings_value =
    all
    (record { grid = 0; lock = 1; rulers = 0; tool = 6; normal_size = 24; paper = record { size = 17; width = 0; height = 0; portrait = 0 }; unit = 0; major = 3; minor = 5 })

-- ---- row 1: a bitmap with the description x

abbrev bitmap_fields : List Item
bitmap_fields =
    string "a" ∷ flag 0 ∷ doubles (0x11_0000_0021 ∷ 0x12_0000_0022 ∷ 0x13_0000_0023 ∷ 0x14_0000_0024 ∷ 0x15_0000_0025 ∷ 0x16_0000_0026 ∷ [])
    ++ flag 0 ∷ string "x" ∷ []

abbrev bitmap_value : Bitmap
bitmap_value =
    record { name = codes "a"; latex = none; transformation = 0x11_0000_0021 ∷ 0x12_0000_0022 ∷ 0x13_0000_0023 ∷ 0x14_0000_0024 ∷ 0x15_0000_0025 ∷ 0x16_0000_0026 ∷ [] }

-- ---- row 5: a text with an alternative and the description x

abbrev latex_fields : List Item
latex_fields =
    string "Mono" ∷ byte 1 ∷ byte 1 ∷ int 9
    ∷ doubles (0x31_0000_0041 ∷ 0x32_0000_0042 ∷ 0x33_0000_0043 ∷ 0x34_0000_0044 ∷ 0x35_0000_0045 ∷ 0x36_0000_0046 ∷ [])
    ++ flag 1 ∷ string "tt" ∷ string "b" ∷ string "" ∷ string "large" ∷ byte 1 ∷ byte 2 ∷ string "\\LaTeX" ∷ []
    ++ char "R" ∷ floats (0x3F00_0000 ∷ 0x3E80_0000 ∷ 0x3F40_0000 ∷ 0x3F80_0000 ∷ [])
    ++ string "Latex" ∷ flag 0 ∷ string "x" ∷ []

abbrev latex_value : Text
latex_value =
    record {
      style = record {
        family = codes "Mono";
        shape = 1;
        series = 1;
        size = 9;
        transformation = 0x31_0000_0041 ∷ 0x32_0000_0042 ∷ 0x33_0000_0043 ∷ 0x34_0000_0044 ∷ 0x35_0000_0045 ∷ 0x36_0000_0046 ∷ [];
        latex = some (record { family = codes "tt"; series = codes "b"; shape = []; size = codes "large"; horizontal = 1; vertical = 2; alternative = codes "\\LaTeX" });
      };
      paint = plain (rgb 0x3F00_0000 0x3E80_0000 0x3F40_0000 0x3F80_0000);
      text = codes "Latex";
    }

-- ---- row 6: a path with a mid marker and the description xy

abbrev marked_fields : List Item
marked_fields =
    char "T" ∷ char "C" ∷ floats (0x3E00_0000 ∷ 0x3EC0_0000 ∷ 0x3F20_0000 ∷ 0x3F60_0000 ∷ 0x8000_0000 ∷ [])
    ++ float 0x4000_0001 ∷ int 2 ∷ float 0x4000_0002 ∷ float 0x4000_0003 ∷ float 0x4000_0004 ∷ byte 1 ∷ byte 2 ∷ byte 0 ∷ []
    ++ byte 0 ∷ []
    ++ byte 20 ∷ float 0x4000_0005 ∷ byte 2 ∷ flag 1 ∷ flag 1 ∷ char "C" ∷ floats (0x3F00_0001 ∷ 0x3F00_0002 ∷ 0x3F00_0003 ∷ 0x3F00_0004 ∷ 0x3F00_0005 ∷ []) ++ flag 0 ∷ byte 0 ∷ []
    ++ byte 0 ∷ []
    ++ char "O" ∷ int 2 ∷ []
    ++ char "L" ∷ doubles (0x51_0000_0061 ∷ 0x52_0000_0062 ∷ 0x53_0000_0063 ∷ 0x54_0000_0064 ∷ [])
    ++ char "M" ∷ doubles (0x53_0000_0063 ∷ 0x54_0000_0064 ∷ 0x55_0000_0065 ∷ 0x56_0000_0066 ∷ [])
    ++ flag 0 ∷ string "xy" ∷ []

abbrev marked_value : Path
marked_value =
    record {
      line_paint = plain transparent;
      fill_paint = plain (cmyk 0x3E00_0000 0x3EC0_0000 0x3F20_0000 0x3F60_0000 0x8000_0000);
      style = record {
        width = 0x4000_0001;
        dashes = 0x4000_0002 ∷ 0x4000_0003 ∷ [];
        dash_offset = 0x4000_0004;
        cap = 1;
        join = 2;
        mitre_limit = 0;
        winding = 0;
        start = [];
        mid = record { id = 20; size = 0x4000_0005; double = 0; repeat = 2; reversed = 1; angle = none; paint = cmyk 0x3F00_0001 0x3F00_0002 0x3F00_0003 0x3F00_0004 0x3F00_0005; overlay = 0; offset = none; repeat_offset = none } ∷ [];
        end = [];
      };
      outline = record {
        open_or_closed = code "O";
        start = at 0 0;
        segments = line (at 0x51_0000_0061 0x52_0000_0062) (at 0x53_0000_0063 0x54_0000_0064)
            ∷ move (at 0x53_0000_0063 0x54_0000_0064) (at 0x55_0000_0065 0x56_0000_0066)
            ∷ [];
      };
    }

-- ---- row 7: a text without LaTeX fields, with a gradient and an empty description

abbrev plain_fields : List Item
plain_fields =
    string "Sans" ∷ byte 0 ∷ byte 0 ∷ int 8
    ∷ doubles (0x71_0000_0081 ∷ 0x72_0000_0082 ∷ 0x73_0000_0083 ∷ 0x74_0000_0084 ∷ 0x75_0000_0085 ∷ 0x76_0000_0086 ∷ [])
    ++ flag 0 ∷ char "G" ∷ char "T" ∷ char "R" ∷ floats (0x3D80_0000 ∷ 0x3E40_0000 ∷ 0x0000_0000 ∷ 0x3EA0_0000 ∷ []) ++ int 6 ∷ []
    ++ string "plain" ∷ flag 0 ∷ string "" ∷ []

abbrev plain_value : Text
plain_value =
    record {
      style = record {
        family = codes "Sans";
        shape = 0;
        series = 0;
        size = 8;
        transformation = 0x71_0000_0081 ∷ 0x72_0000_0082 ∷ 0x73_0000_0083 ∷ 0x74_0000_0084 ∷ 0x75_0000_0085 ∷ 0x76_0000_0086 ∷ [];
        latex = none;
      };
      paint = linear transparent (rgb 0x3D80_0000 0x3E40_0000 0x0000_0000 0x3EA0_0000) 6;
      text = codes "plain";
    }

-- ---- row 8: a bitmap with LaTeX strings, of which the second is empty, and the description x

abbrev linked_fields : List Item
linked_fields =
    string "zz" ∷ flag 1 ∷ string "l" ∷ string "" ∷ doubles (0x91_0000_00A1 ∷ 0x92_0000_00A2 ∷ 0x93_0000_00A3 ∷ 0x94_0000_00A4 ∷ 0x95_0000_00A5 ∷ 0x96_0000_00A6 ∷ [])
    ++ flag 0 ∷ string "x" ∷ []

abbrev linked_value : Bitmap
linked_value =
    record { name = codes "zz"; latex = some (record { link = codes "l"; command = [] }); transformation = 0x91_0000_00A1 ∷ 0x92_0000_00A2 ∷ 0x93_0000_00A3 ∷ 0x94_0000_00A4 ∷ 0x95_0000_00A5 ∷ 0x96_0000_00A6 ∷ [] }

-- ---- the file: groups are rows 0, 2, 3 and 4, with the descriptions top, a lone surrogate with a second char, x and y

abbrev items : List Item
items =
    head "2" ++ settings_fields
    ++ char "G" ∷ int 3 ∷ char "I" ∷ bitmap_fields
    ++ char "G" ∷ int 2
    ∷ char "G" ∷ int 2
    ∷ char "G" ∷ int 1 ∷ char "T" ∷ latex_fields
    ++ flag 0 ∷ string "y" ∷ char "P" ∷ marked_fields
    ++ flag 0 ∷ string "x" ∷ char "T" ∷ plain_fields
    ++ flag 0 ∷ coded (0xD800 ∷ 0xFFFF ∷ []) ∷ char "I" ∷ linked_fields
    ++ flag 0 ∷ string "top" ∷ []

abbrev file : List ℕ
file = bytes items

abbrev tree : Drawing
tree =
    record {
      version = 2;
      settings = settings_value;
      members = of_list
          (leaf (bitmap bitmap_value) (codes "x")
          ∷ group
          (of_list
          (group (of_list (group (of_list (leaf (text latex_value) (codes "x") ∷ [])) (codes "y") ∷ leaf (path marked_value) (codes "xy") ∷ [])) (codes "x")
          ∷ leaf (text plain_value) []
          ∷ []))
          (0xD800 ∷ 0xFFFF ∷ [])
          ∷ leaf (bitmap linked_value) (codes "x")
          ∷ []);
      description = codes "top";
    }

-- Kind, parent, start and length of each row.
abbrev contents : List ℕ
contents =
    1 ∷ 0 ∷ 211 ∷ 6
    ∷ 4 ∷ 0 ∷ 11 ∷ 18
    ∷ 1 ∷ 0 ∷ 184 ∷ 5
    ∷ 1 ∷ 2 ∷ 143 ∷ 4
    ∷ 1 ∷ 3 ∷ 85 ∷ 4
    ∷ 3 ∷ 4 ∷ 29 ∷ 56
    ∷ 2 ∷ 3 ∷ 89 ∷ 54
    ∷ 3 ∷ 2 ∷ 147 ∷ 37
    ∷ 4 ∷ 0 ∷ 189 ∷ 22
    ∷ []

-- The minor version and the settings; then rows 1, 5, 4, 6, 3, 7, 2, 8 and 0, as the objects end.
abbrev body_items : List Item
body_items =
    int 2 ∷ settings_fields
    ++ bitmap_fields
    ++ latex_fields ++ int 1 ∷ flag 0 ∷ string "y" ∷ []
    ++ marked_fields ++ int 2 ∷ flag 0 ∷ string "x" ∷ []
    ++ plain_fields ++ int 2 ∷ flag 0 ∷ coded (0xD800 ∷ 0xFFFF ∷ []) ∷ []
    ++ linked_fields ++ int 3 ∷ flag 0 ∷ string "top" ∷ []

abbrev bodies : List ℕ
bodies = words body_items

whole : Whole file tree contents bodies
unfolding from_zero_to le of_int of_bits
whole = record { reads = refl; writes = refl; rows = refl; words = refl; back = refl }

respelled : Respelled (bytes (map otherwise items)) file tree contents (words (map otherwise body_items))
unfolding from_zero_to le of_int of_bits
respelled = record { reads = refl; made = refl; strict = refl }

-- ---- answers

labels : map (λ label. entries label tree) (codes "x" ∷ [] ∷ codes "xy" ∷ codes "top" ∷ (0xD800 ∷ 0xFFFF ∷ []) ∷ codes "xyz" ∷ [])
    ≡ (1 ∷ 3 ∷ 5 ∷ 8 ∷ []) ∷ (7 ∷ []) ∷ (6 ∷ []) ∷ (0 ∷ []) ∷ (2 ∷ []) ∷ [] ∷ []
labels = refl

around : groups_around tree
    ≡ [] ∷ (0 ∷ []) ∷ (0 ∷ []) ∷ (2 ∷ 0 ∷ []) ∷ (3 ∷ 2 ∷ 0 ∷ []) ∷ (4 ∷ 3 ∷ 2 ∷ 0 ∷ []) ∷ (3 ∷ 2 ∷ 0 ∷ []) ∷ (2 ∷ 0 ∷ []) ∷ (0 ∷ []) ∷ []
around = refl

-- The file has 674 bytes, 9 rows and 217 words; what is lent past them stays.
answers : (read_result file (replicate 38 9) (replicate 218 8)
    ≡ record { answer = answer 0 674 9 217; contents = contents ++ 9 ∷ 9 ∷ []; bodies = bodies ++ 8 ∷ [] })
    × (check_answer contents bodies ≡ answer 0 674 9 217)
    × (list_output contents bodies (codes "x") (7 ∷ 7 ∷ 7 ∷ 7 ∷ 7 ∷ []) ≡ record { answer = answer 0 0 4 0; buffer = 1 ∷ 3 ∷ 5 ∷ 8 ∷ 7 ∷ [] })
unfolding from_zero_to le of_int of_bits
answers = (refl, refl, refl)

paints : map (λ (q : ℕ × Which). paint_answer contents bodies q.0 q.1) ((6, Line) ∷ (6, Fill) ∷ (5, Letters) ∷ (7, Letters) ∷ (7, Fill) ∷ (6, Letters) ∷ (0, Line) ∷ (9, Line) ∷ [])
    ≡ Plain Enum.Transparent
    ∷ Plain (Enum.Cmyk (fin false 1 (negsuc 2)) (fin false 3 (negsuc 2)) (fin false 5 (negsuc 2)) (fin false 7 (negsuc 2)) (fin true 0 (pos 0)))
    ∷ Plain (Enum.Rgb (fin false 1 (negsuc 0)) (fin false 1 (negsuc 1)) (fin false 3 (negsuc 1)) (fin false 1 (pos 0)))
    ∷ Linear Enum.Transparent (Enum.Rgb (fin false 1 (negsuc 3)) (fin false 3 (negsuc 3)) (fin false 0 (pos 0)) (fin false 5 (negsuc 3))) 6
    ∷ Refused 7 ∷ Refused 7 ∷ Refused 7 ∷ Refused 6 ∷ []
unfolding from_zero_to le of_int of_bits
paints = refl

-- The places of the alternative and of the text.
texts : map (λ row. text_answer contents bodies row) (5 ∷ 7 ∷ 6 ∷ 9 ∷ [])
    ≡ record { number = 0; alternative = record { start = 65; length = 6 }; text = record { start = 77; length = 5 } }
    ∷ record { number = 0; alternative = record { start = 0; length = 0 }; text = record { start = 177; length = 5 } }
    ∷ record { number = 7; alternative = record { start = 0; length = 0 }; text = record { start = 0; length = 0 } }
    ∷ record { number = 6; alternative = record { start = 0; length = 0 }; text = record { start = 0; length = 0 } }
    ∷ []
unfolding from_zero_to le of_int of_bits
texts = refl

-- The places of the chars of descriptions: of top, of two chars, of xy, of none behind its length; and of a row that is not there.
descriptions : map (λ row. description_answer contents bodies row) (0 ∷ 2 ∷ 6 ∷ 7 ∷ 9 ∷ [])
    ≡ record { number = 0; chars = record { start = 214; length = 3 } }
    ∷ record { number = 0; chars = record { start = 187; length = 2 } }
    ∷ record { number = 0; chars = record { start = 141; length = 2 } }
    ∷ record { number = 0; chars = record { start = 184; length = 0 } }
    ∷ record { number = 6; chars = record { start = 0; length = 0 } }
    ∷ []
unfolding from_zero_to le of_int of_bits
descriptions = refl
