-- `sums::balance` meets its contract: cell by cell where all are as long.
use Rattle.std.proofs.Common.{arith, ◌∙◌}
use Rattle.laws.proofs.Rewriting.{rewriting_end}
use Rattle.sums.proofs.Balancing.{balanced_both}
use Rattle.sums.proofs.balance.Goals as goal

pub returns : goal.returns
returns c = rewriting_end _ _ _ (omega arith) c.loop-i.invariant ∙ balanced_both _ _ _ c.if-n-more.false c.if-n-less.false
