-- `ranking::load_marks` meets its contract: the words are filled from the marks.
use lib.ListN.{length, get_or}
use Rattle.laws.proofs.Filling.{Filled}
use Rattle.ranking.proofs.load_marks.Given as goal

abbrev pub invariant-loop-i : goal.invariant-loop-i
invariant-loop-i l = Filled (λ k. get_or l.marks k 0) 0 (length l.marks) l.sums l.i
