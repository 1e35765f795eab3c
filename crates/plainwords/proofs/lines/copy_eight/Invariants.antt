use Rattle.plainwords.specs.Inside.{Copied}
use Rattle.plainwords.proofs.lines.copy_eight.Given as goal

abbrev pub invariant-loop-j : goal.invariant-loop-j
invariant-loop-j l = Copied l.a l.b l.j l.from l.initial.to l.to
