-- `replays::put_numbered` meets its contract: the word, a tab and the number.
use Rattle.replays.proofs.Lines.{numbered_put}
use Rattle.replays.proofs.put_numbered.Goals as goal

pub returns : goal.returns
returns c = search numbered_put
