-- `run_cases::sessions::Given::pieces` takes its pieces from the file.
use Rattle.std.proofs.Common.{length, ◌≤◌}
use Rattle.run_cases.proofs.sessions.Given.pieces.Given as goal

abbrev pub invariant-loop-cut : goal.invariant-loop-cut
invariant-loop-cut l = l.start ≤ length l.file
