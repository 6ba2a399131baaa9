use Rattle.sheets.specs.JudgingLaws.{part_lengths, part_tells}
use Rattle.sheets.proofs.judge.holds_table.Goals as goal

pub walk_table-walked-requires : goal.walk_table-walked-requires
walk_table-walked-requires c =
    let all = part_lengths c.args.sheet.now c.args.rows c.requires.1 c.requires.2 c.requires.0 c.requires.3 in
    record { contents_len_bound = all.0; words_in_bounds = all.1 }

pub returns : goal.returns
returns c = part_tells c.args.sheet.now c.args.rows c.requires.1 c.requires.2 c.walk_table-walked.ensures
