use Rattle.laws.proofs.Rewriting.{Rewriting}
use Rattle.clearing.specs.Cleared.{kept_or_at}
use Rattle.clearing.proofs.keep.Given as goal

abbrev pub invariant-loop-i : goal.invariant-loop-i
invariant-loop-i g l = Rewriting (kept_or_at l.empty l.marks l.initial.lane) l.empty l.initial.lane l.lane l.i
