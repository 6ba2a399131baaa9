-- Groups with nothing in them (R-2): the smallest file, in full, and one of 1.2 with empty groups in groups, which are listed by their labels.
use Rattle.std.specs.Prelude.{◌≡◌, refl, ℕ, List, [], ◌∷◌, ◌++◌, map, set}
use Rattle.drawing.specs.Settings.{absent}
use Rattle.drawing.specs.Object.{group, of_list}
use Rattle.drawing.specs.Drawing.{Drawing}
use Rattle.drawing.specs.Order.{entries, groups_around}
use Rattle.drawing.specs.Answers.{answer}
use Rattle.drawing.specs.Computed.{check_answer}
use Rattle.drawing.specs.examples.Whole.{Whole}
use Rattle.drawing.specs.examples.Bytes.{flag, int, char, string, codes, bytes, words, head}

-- ---- 24 bytes: the outer group alone

abbrev smallest : List ℕ
smallest = bytes (head "0" ++ flag 0 ∷ char "G" ∷ int 0 ∷ flag 0 ∷ [])

abbrev pub empty : Drawing
empty = record { version = 0; settings = absent; members = of_list []; description = [] }

smallest-whole : Whole smallest empty (1 ∷ 0 ∷ 2 ∷ 2 ∷ []) (words (int 0 ∷ flag 0 ∷ int 0 ∷ flag 0 ∷ []))
smallest-whole = record { reads = refl; writes = refl; rows = refl; words = refl; back = refl }

-- ---- version 1.2: rows 2 and 3 are empty bays, and row 1 holds the first of them

abbrev bays : List ℕ
bays =
    bytes
    (head "2" ++ flag 0
    ∷ char "G" ∷ int 2
    ∷ char "G" ∷ int 1
    ∷ char "G" ∷ int 0 ∷ flag 0 ∷ string "bay"
    ∷ flag 0 ∷ string "hall"
    ∷ char "G" ∷ int 0 ∷ flag 0 ∷ string "bay"
    ∷ flag 0 ∷ string ""
    ∷ [])

abbrev pub site : Drawing
site =
    record {
      version = 2;
      settings = absent;
      members = of_list (group (of_list (group (of_list []) (codes "bay") ∷ [])) (codes "hall") ∷ group (of_list []) (codes "bay") ∷ []);
      description = [];
    }

abbrev pub contents : List ℕ
contents = 1 ∷ 0 ∷ 21 ∷ 3 ∷ 1 ∷ 0 ∷ 8 ∷ 7 ∷ 1 ∷ 1 ∷ 2 ∷ 6 ∷ 1 ∷ 0 ∷ 15 ∷ 6 ∷ []

-- Rows 2, 1, 3 and 0, as the groups end.
abbrev pub bodies : List ℕ
bodies = words (int 2 ∷ flag 0 ∷ int 0 ∷ flag 0 ∷ string "bay" ∷ int 1 ∷ flag 0 ∷ string "hall" ∷ int 0 ∷ flag 0 ∷ string "bay" ∷ int 2 ∷ flag 0 ∷ string "" ∷ [])

site-whole : Whole bays site contents bodies
site-whole = record { reads = refl; writes = refl; rows = refl; words = refl; back = refl }

labels : map (λ label. entries label site) (codes "bay" ∷ codes "hall" ∷ [] ∷ []) ≡ (2 ∷ 3 ∷ []) ∷ (1 ∷ []) ∷ (0 ∷ []) ∷ []
labels = refl

around : groups_around site ≡ [] ∷ (0 ∷ []) ∷ (1 ∷ 0 ∷ []) ∷ (0 ∷ []) ∷ []
around = refl

-- A count of -1 or of a member that is not there makes it no table.
others : map (λ n. check_answer contents (set bodies 2 n)) (0 ∷ 1 ∷ 0xFFFF_FFFF ∷ []) ≡ answer 0 81 4 24 ∷ answer 16 0 0 0 ∷ answer 16 0 0 0 ∷ []
others = refl
