-- `runs::write_codes` meets its contract: the codes of one run after the other are written (Writing).
use Rattle.runs.proofs.Writing.{Writing}
use Rattle.runs.proofs.write_codes.Given as goal

abbrev pub invariant-loop-run : goal.invariant-loop-run
invariant-loop-run l = Writing l.fn.runs l.initial.log l.from l.run-index l.at l.log
