use Rattle.std.proofs.Common.{ℕ}
use Rattle.laws.proofs.Rewriting.{Rewriting}
use Rattle.clearing.proofs.clear.Given as goal

abbrev pub invariant-loop-own : goal.invariant-loop-own
invariant-loop-own g l = Rewriting (λ (i : ℕ). l.empty) l.empty l.initial.lane l.lane l.own-index
