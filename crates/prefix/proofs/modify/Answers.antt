-- `prefix::modify` meets its contract: the rest of step 4, and step 5.
use Rattle.prefix.proofs.Composing.{modify_moves}
use Rattle.prefix.proofs.modify.Goals as goal

pub returns : goal.returns
returns c = modify_moves _ c.subtract.ensures c.run.ensures c.add.ensures c.swap_words.ensures c.subtract-2.ensures
