-- `ranking::set_aims` meets its contract: the aims are filled with one less than the sums.
use lib.ListN.{length}
use Rattle.laws.proofs.Filling.{Filled}
use Rattle.ranking.specs.Ranks.{aim_in}
use Rattle.ranking.proofs.set_aims.Given as goal

abbrev pub invariant-loop-i : goal.invariant-loop-i
invariant-loop-i l = Filled (aim_in l.marks) 0 (length l.marks) l.aims l.i
