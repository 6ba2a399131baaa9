-- What `jdr_paint` promises follows from its equation.
use Rattle.std.specs.Prelude.{◌≡◌, refl, List, ℕ, ◌^◌}
use Rattle.std.proofs.Common.{ap, ◌∙◌}
use Rattle.std.proofs.Math.Option.{Option, none, some}
use Rattle.format.specs.Digits.{Below}
use Rattle.drawing.specs.declared.Which.{Which}
use Rattle.drawing.specs.Drawing.{Drawing}
use Rattle.drawing.specs.TableDrawing.{drawing_of_table}
use Rattle.drawing.specs.Questions.{refusal, part_of, paint_value, paint_given, paint_of}
use Rattle.drawing.specs.Computed.{from_table}
use Rattle.promises.proofs.PromiseLaws.{of_table, given-paint}
use Rattle.jdr_c.specs.declared.GivenPaint.{GivenPaint}
use Rattle.jdr_c.specs.PaintComputed.{paint_computed}
use Rattle.jdr_c.specs.Values.{paint_struct, part_numbered, paint_numbered, PaintsForC}

-- What is computed of a table is what is asked of its drawing.
computed : (contents bodies : List ℕ) (row : ℕ) (part : Option Which)
    → paint_struct (paint_given (paint_computed contents bodies row part)) ≡ from_table (λ d. paint_struct (paint_of (part_of (paint_numbered part) row d))) (paint_struct (paint_of (refusal 16))) (drawing_of_table contents bodies)
computed contents bodies row part = ap (λ a. paint_struct (paint_given a)) (told part) ∙ by (drawing_of_table contents bodies)
  where
    told : (part : Option Which) → paint_computed contents bodies row part ≡ from_table (λ d. paint_value (part_of (paint_numbered part) row d)) (paint_value (refusal 16)) (drawing_of_table contents bodies)
    told (some which) = refl
    told none = refl

    by : (o : Option Drawing) → paint_struct (paint_given (from_table (λ d. paint_value (part_of (paint_numbered part) row d)) (paint_value (refusal 16)) o))
        ≡ from_table (λ d. paint_struct (paint_of (part_of (paint_numbered part) row d))) (paint_struct (paint_of (refusal 16))) o
    by none = refl
    by (some d) = ap paint_struct (given-paint (part_of (paint_numbered part) row d))

pub paints_for_c : {contents bodies : List ℕ} {row which : ℕ} {r : GivenPaint} → Below (2 ^ 32) bodies → r ≡ paint_struct (paint_given (paint_computed contents bodies row (part_numbered which))) → PaintsForC contents bodies row which r
paints_for_c {contents} {bodies} {row} {which} below is =
    record {
      decides =
          of_table (λ d. paint_struct (paint_of (part_of (paint_numbered (part_numbered which)) row d))) (paint_struct (paint_of (refusal 16))) below
          (is ∙ computed contents bodies row (part_numbered which));
      says = is;
    }
