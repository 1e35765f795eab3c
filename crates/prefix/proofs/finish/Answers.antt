-- `prefix::finish` meets its contract: steps 6 to 9.
use Rattle.prefix.proofs.Composing.{finish_moves}
use Rattle.prefix.proofs.finish.Goals as goal

pub returns : goal.returns
returns c = finish_moves _ c.run.ensures c.balance.ensures c.run-2.ensures c.add.ensures
