use Rattle.sums.proofs.Stepping.{Stepping}
use Rattle.sums.proofs.combine.Given as goal

abbrev pub invariant-loop-i : goal.invariant-loop-i
invariant-loop-i g l = Stepping (goal.F-post g l.step) l.initial.to l.from l.to l.i
