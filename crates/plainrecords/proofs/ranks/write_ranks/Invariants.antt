-- `plainrecords::ranks::write_ranks` meets its contract: the aims are filled with the running count.
use lib.ListN.{length}
use Rattle.laws.proofs.Filling.{Filled}
use Rattle.ranking.specs.Ranks.{aim_in}
use Rattle.plainrecords.proofs.Counted.{Counted}
use Rattle.plainrecords.proofs.ranks.write_ranks.Given as goal

abbrev pub invariant-loop-i : goal.invariant-loop-i
invariant-loop-i l = Counted l.marks l.rank l.i × Filled (aim_in l.marks) 0 (length l.marks) l.aims l.i
