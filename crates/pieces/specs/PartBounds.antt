-- How many bytes the bounded parts of a file take at most.
use Rattle.std.specs.Prelude.{ℕ, zero, suc, ◌+◌, ◌*◌, ◌≤◌, Bool, true, false}
use Rattle.std.proofs.Common.{arith}
use Rattle.format.specs.Script.{Script}
use Rattle.format.specs.Layout.{Layout, field, repeat, ◌&◌}
use Rattle.format.specs.Pass.{◌⟫◌, done}
use Rattle.drawing.specs.Fields as F
use Rattle.drawing.specs.Paint.{plain_paint, paint}
use Rattle.drawing.specs.Marker.{marker, arrow, marker_body}
use Rattle.drawing.specs.MarkerChain.{chain, markers}
use Rattle.drawing.specs.Text.{transformation}
use Rattle.drawing.specs.Settings.{paper, all_settings, settings}
use Rattle.ways.specs.LineStyleLaws.{join}
use Rattle.ways.specs.TextLaws.{face}
use Rattle.pieces.specs.BoundLaws.{Most}
use Rattle.pieces.specs.LeafLaws.{line_end, alignment}

pub plain-paint_22 : (v : ℕ) → Most 22 (plain_paint v)
plain-paint_22 v =
    record {
      within = (
        2,
        20,
        omega arith,
        omega arith,
        λ c. (
          (4, 16, omega arith, omega arith, λ r. (4, 12, omega arith, omega arith, λ g. (4, 8, omega arith, omega arith, λ b. omega arith))),
          (
            (4, 16, omega arith, omega arith, λ r. (4, 12, omega arith, omega arith, λ g. (4, 8, omega arith, omega arith, λ b. (4, 4, omega arith, omega arith, λ k. omega arith)))),
            ((4, 16, omega arith, omega arith, λ g. omega arith), ((4, 16, omega arith, omega arith, λ r. (4, 12, omega arith, omega arith, λ g. (4, 8, omega arith, omega arith, λ b. omega arith))), tt)),
          ),
        ),
      );
    }

pub paint_50 : (v : ℕ) → Most 50 (paint v)
paint_50 v =
    let plain = (plain-paint_22 v).within in
    record {
      within = (
        2,
        48,
        omega arith,
        omega arith,
        λ c. (
          (4, 16, omega arith, omega arith, λ r. (4, 12, omega arith, omega arith, λ g. (4, 8, omega arith, omega arith, λ b. omega arith))),
          (
            (4, 16, omega arith, omega arith, λ r. (4, 12, omega arith, omega arith, λ g. (4, 8, omega arith, omega arith, λ b. (4, 4, omega arith, omega arith, λ k. omega arith)))),
            (
              (4, 16, omega arith, omega arith, λ g. omega arith),
              (
                (4, 16, omega arith, omega arith, λ r. (4, 12, omega arith, omega arith, λ g. (4, 8, omega arith, omega arith, λ b. omega arith))),
                ((22, 26, omega arith, plain, λ s. (22, 4, omega arith, plain, λ e. omega arith)), ((22, 26, omega arith, plain, λ s. (22, 4, omega arith, plain, λ e. omega arith)), tt)),
              ),
            ),
          ),
        ),
      );
    }

pub transformation_48 : Most 48 transformation
transformation_48 = record { within = (8, omega arith, λ t. omega arith) }

pub marker-body_44 : (v id : ℕ) → Most 44 (marker_body v id)
marker-body_44 v id =
    record {
      within = (
        (
          4,
          40,
          omega arith,
          omega arith,
          λ s. (
            1,
            39,
            omega arith,
            omega arith,
            λ r. (
              1,
              38,
              omega arith,
              omega arith,
              λ b. (
                5,
                33,
                omega arith,
                (1, 4, omega arith, omega arith, λ f. (omega arith, tt)),
                λ a.
                    (22, 11, omega arith, (plain-paint_22 v).within, λ p. (1, 10, omega arith, omega arith, λ o. ((5, 5, omega arith, (1, 4, omega arith, omega arith, λ f. (omega arith, tt)), λ x. (1, 4, omega arith, omega arith, λ f. (omega arith, tt))), tt))),
              ),
            ),
          ),
        ),
        (4, 40, omega arith, omega arith, λ s. (1, 39, omega arith, omega arith, λ d. omega arith)),
      );
    }

pub chain_most : (v left : ℕ) → Most (45 * left + 1) (chain v left)
chain_most v zero = record { within = (1, 0, omega arith, omega arith, λ id. tt) }
chain_most v (suc left) =
    let rest = (chain_most v left).within in
    record { within = (1, 44 + (45 * left + 1), omega arith, omega arith, λ id. (tt, (44, 45 * left + 1, omega arith, (marker-body_44 v id).within, λ m. (rest, tt)))) }

pub paper_18 : (v : ℕ) → Most 18 (paper v)
paper_18 v = record { within = (1, 17, omega arith, omega arith, λ s. ((8, 9, omega arith, omega arith, λ w. (8, 1, omega arith, omega arith, λ h. (omega arith, tt))), tt)) }

pub paper_38 : (v : ℕ) → Most 38 (paper v)
paper_38 v = record { within = (1, 37, omega arith, omega arith, λ s. ((8, 29, omega arith, omega arith, λ w. (8, 21, omega arith, omega arith, λ h. (omega arith, tt))), tt)) }

pub all_38 : (v : ℕ) → Most 38 (all_settings v)
all_38 v =
    record {
      within = (
        1,
        37,
        omega arith,
        omega arith,
        λ g. (
          1,
          36,
          omega arith,
          omega arith,
          λ l. (
            1,
            35,
            omega arith,
            omega arith,
            λ r. (
              4,
              31,
              omega arith,
              omega arith,
              λ t. (
                4,
                27,
                omega arith,
                omega arith,
                λ n.
                    (18, 9, omega arith, (paper_18 v).within, λ p. (1, 8, omega arith, omega arith, λ u. (4, 4, omega arith, omega arith, λ m. omega arith))),
              ),
            ),
          ),
        ),
      );
    }

pub settings_39 : (v : ℕ) → Most 39 (settings v)
settings_39 v =
    record {
      within = (
        (1, 38, omega arith, omega arith, λ c. ((all_38 v).within, ((paper_38 v).within, tt))),
        (1, 38, omega arith, omega arith, λ c. ((all_38 v).within, tt)),
      );
    }

pub markers_181 : (v : ℕ) → Most 181 (markers v)
markers_181 v = record { within = (chain_most v 4).within }

pub line_end_7 : Most 7 line_end
line_end_7 = record { within = (1, 6, omega arith, omega arith, λ c. (5, 1, omega arith, (1, 4, omega arith, omega arith, λ j. (omega arith, tt)), λ m. omega arith)) }

pub face_54 : Most 54 face
face_54 = record { within = (1, 53, omega arith, omega arith, λ a. (1, 52, omega arith, omega arith, λ b. (4, 48, omega arith, omega arith, λ c. transformation_48.within))) }

pub alignment_2 : Most 2 alignment
alignment_2 = record { within = (1, 1, omega arith, omega arith, λ h. omega arith) }

pub joined_16 : (x y : ℕ) → Most 16 (field (F.joined x) & field (F.joined y))
joined_16 x y = record { within = (8, 8, omega arith, omega arith, λ a. omega arith) }

pub doubles_most : (n : ℕ) → Most (n * 8) (repeat n (field F.double))
doubles_most n = record { within = (8, omega arith, λ t. omega arith) }

pub float_4 : Most 4 (field F.float)
float_4 = record { within = omega arith }
