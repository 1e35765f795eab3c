-- `refusals::judging::first_runs` meets its contract: run after run, with the moves that remain carried along (Judged).
use Rattle.refusals.proofs.Judged.{Cutting}
use Rattle.refusals.proofs.judging.first_runs.Given as goal

abbrev pub invariant-loop-run : goal.invariant-loop-run
invariant-loop-run l = Cutting l.cut l.fn.runs l.run-items l.remaining l.run-index
