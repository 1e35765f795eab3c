-- `plainrecords::ranks::write_ranks` meets its contract: the aims are filled with the running count.
use borrow.Author.Rules.{rules}
use Rattle.laws.proofs.Filling.{filled-end}
use Rattle.plainrecords.proofs.ranks.write_ranks.Goals as goal

pub returns : goal.returns
returns c = filled-end _ _ (search rules) c.loop-i.invariant.1
