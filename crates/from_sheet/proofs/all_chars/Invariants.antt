use Rattle.from_sheet.specs.Way.{units}
use Rattle.memory.specs.CharLaws.{Mixed}
use Rattle.from_sheet.proofs.all_chars.Given as goal

abbrev pub invariant-loop-i : goal.invariant-loop-i
invariant-loop-i l = Mixed (units l.src) l.from l.i l.all
