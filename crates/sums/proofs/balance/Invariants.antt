use Rattle.laws.proofs.Rewriting.{Rewriting}
use Rattle.sums.proofs.Balancing.{balanced}
use Rattle.sums.proofs.balance.Given as goal

abbrev pub invariant-loop-i : goal.invariant-loop-i
invariant-loop-i l = Rewriting (balanced l.initial.to l.more l.less) 0 l.initial.to l.to l.i
