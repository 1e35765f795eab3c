-- `spreads::sum_all` meets its contract: two group sums and the swap between them.
use Rattle.spreads.proofs.Composing.{sum-all-moves}
use Rattle.spreads.proofs.sum_all.Goals as goal

pub returns : goal.returns
returns c =
    sum-all-moves _ c.group_sum.ensures c.swap_words.ensures c.group_sum-2.ensures
