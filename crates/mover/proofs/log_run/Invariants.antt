-- `mover::log_run` meets its contract: the count of one move after the other.
use Rattle.mover.specs.Inside.{tallied}
use Rattle.mover.proofs.Running.{Logging}
use Rattle.mover.proofs.log_run.Given as goal

abbrev pub invariant-loop-j : goal.invariant-loop-j
invariant-loop-j l = Logging (tallied l.late l.times l.tally) l.tally.made l.from l.j l.initial.moved l.moved
