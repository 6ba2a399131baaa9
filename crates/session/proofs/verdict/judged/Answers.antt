use Rattle.pieces.proofs.SessionLaws.{verdicts_given}
use mathlib.Core.Path.{sym, ◌∙◌}
use Rattle.session.proofs.verdict.judged.Goals as goal

pub returns : goal.returns
returns c = verdicts_given (sym c.is_unfit.ensures ∙ c.if-is_unfit.false) c.answer_in.ensures c.spent.ensures
