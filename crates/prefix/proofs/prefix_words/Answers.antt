-- `prefix::prefix_words` meets its contract: no board has more than 4,096 cells.
use Rattle.prefix.proofs.Composing.{all_within}
use Rattle.prefix.proofs.prefix_words.Goals as goal

pub returns-else-words-le256 : goal.returns-else-words-le256
returns-else-words-le256 c = all_within c.args.side c.args.words.now c.prefix_within-else-words-le256.ensures
