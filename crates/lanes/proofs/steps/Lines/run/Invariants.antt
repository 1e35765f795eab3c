use Rattle.lanes.specs.Machine.{ran}
use Rattle.lanes.specs.Inside.{Moved}
use Rattle.lanes.specs.Runs.{running}
use Rattle.lanes.proofs.steps.Lines.run.Given as goal

abbrev pub invariant-loop-k : goal.invariant-loop-k
invariant-loop-k l = Moved l.self.side (ran l.self.side (running l.self.way l.joining l.e l.n) l.k) l.initial.words l.words
