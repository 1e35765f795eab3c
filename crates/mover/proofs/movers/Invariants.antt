-- `mover::movers` meets its contract: the sum over the distances.
use Rattle.mover.proofs.Running.{Adding}
use Rattle.mover.proofs.movers.Given as goal

abbrev pub invariant-loop-d : goal.invariant-loop-d
invariant-loop-d l = Adding l.late l.times l.n-items l.j l.d l.count
