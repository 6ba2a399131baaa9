-- `run_cases::put_cases` ends at the end of the list of cases.
use Rattle.std.proofs.Common.{length}
use Rattle.run_cases.proofs.put_cases.Given as goal

abbrev pub decreases-loop-rest : goal.decreases-loop-rest
decreases-loop-rest g l = length l.rest
