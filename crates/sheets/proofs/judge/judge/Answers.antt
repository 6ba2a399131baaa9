use Rattle.sheets.specs.JudgingLaws.{other_length, no_table, found}
use Rattle.drawing.specs.SheetDrawing.{row_count, words_count, bytes_before, sheet_length}
use Rattle.drawing.specs.Sheet.{number_bytes}
use Rattle.format.specs.LeafLaws.{known_below, field_below}
use lib.ListN.{length}
use Prim.Native.Nat.{◌+◌, ◌*◌}
use mir.Syntax.{w8}
use mathlib.Core.Path.{◌≡◌, refl, sym, ap, ◌∙◌}
use native.Mathlib.Omega.{arith}
use Rattle.sheets.proofs.judge.judge.Goals as goal

pub returns-then-sheet : goal.returns-then-sheet
returns-then-sheet c =
    (other_length c.args.sheet.now (λ long. omega (arith, long, c.if-sheet.true)))

pub bytes_before-before-requires : goal.bytes_before-before-requires
bytes_before-before-requires c =
    let small = field_below 256 c.args.sheet.now 0 2 (omega (arith, c.if-sheet.false)) (known_below w8 c.args.sheet.now c.type_inv.sheet) in omega (arith, small, c.char_at-rows.ensures)

pub returns-then-sheet-before : goal.returns-then-sheet-before
returns-then-sheet-before c =
    (other_length c.args.sheet.now (λ long. c.if-sheet-before.true (long ∙ sym (ap (λ n. n + 4 * c.char_at-words.result) (c.bytes_before-before.ensures ∙ ap (bytes_before number_bytes) c.char_at-rows.ensures) ∙ ap (λ n. bytes_before number_bytes (row_count number_bytes c.args.sheet.now) + 4 * n) c.char_at-words.ensures))))

pub holds_table-requires : goal.holds_table-requires
holds_table-requires c =
    let below = known_below w8 c.args.sheet.now c.type_inv.sheet in let small = field_below 256 c.args.sheet.now 0 2 (omega (arith, c.if-sheet.false)) below in let few = field_below 256 c.args.sheet.now 2 2 (omega (arith, c.if-sheet.false)) below in (omega (arith, small, c.char_at-rows.ensures), c.bytes_before-before.ensures, omega (arith, c.if-sheet-before.false), omega (arith, c.if-sheet-before.false, few, c.char_at-words.ensures))

pub returns-then-holds_table : goal.returns-then-holds_table
returns-then-holds_table c =
    let long : length c.args.sheet.now ≡ sheet_length number_bytes (row_count number_bytes c.args.sheet.now) (words_count number_bytes c.args.sheet.now) = c.if-sheet-before.false ∙ (ap (λ n. n + 4 * c.char_at-words.result) (c.bytes_before-before.ensures ∙ ap (bytes_before number_bytes) c.char_at-rows.ensures) ∙ ap (λ n. bytes_before number_bytes (row_count number_bytes c.args.sheet.now) + 4 * n) c.char_at-words.ensures) in (found c.args.sheet.now long c.char_at-rows.ensures c.holds_table.ensures (known_below w8 c.args.sheet.now c.type_inv.sheet) c.if-holds_table.true c.char_at-words.ensures, refl)

pub returns : goal.returns
returns c =
    let long : length c.args.sheet.now ≡ sheet_length number_bytes (row_count number_bytes c.args.sheet.now) (words_count number_bytes c.args.sheet.now) = c.if-sheet-before.false ∙ (ap (λ n. n + 4 * c.char_at-words.result) (c.bytes_before-before.ensures ∙ ap (bytes_before number_bytes) c.char_at-rows.ensures) ∙ ap (λ n. bytes_before number_bytes (row_count number_bytes c.args.sheet.now) + 4 * n) c.char_at-words.ensures) in (no_table c.args.sheet.now long c.char_at-rows.ensures c.holds_table.ensures c.if-holds_table.false)

pub overflow_cast-result : goal.overflow_cast-result
overflow_cast-result c =
    let below = known_below w8 c.args.sheet.now c.type_inv.sheet in let small = field_below 256 c.args.sheet.now 0 2 (omega (arith, c.if-sheet.false)) below in let few = field_below 256 c.args.sheet.now 2 2 (omega (arith, c.if-sheet.false)) below in omega (arith, small, few, c.char_at-rows.ensures, c.char_at-words.ensures, c.bytes_before-before.ensures, c.if-sheet-before.false)
