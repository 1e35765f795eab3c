-- `ranking::set_aims` meets its contract: the aims are filled with one less than the sums.
use Rattle.std.proofs.Common.{rules, arith}
use Rattle.laws.proofs.Filling.{filled-end}
use Rattle.ranking.proofs.Aims.{sum_few}
use Rattle.ranking.proofs.set_aims.Goals as goal

pub overflow_cast-rank : goal.overflow_cast-rank
overflow_cast-rank c = let few = sum_few c.requires.summed c.loop-i.i (search rules) in omega (arith, few)

pub returns : goal.returns
returns c = filled-end _ _ (search rules) c.loop-i.invariant
