-- `prefix::group_sums` meets its contract: step 3 and the sums of step 4.
use Rattle.prefix.proofs.Composing.{group_sums}
use Rattle.prefix.proofs.group_sums.Goals as goal

pub returns : goal.returns
returns c =
    group_sums _ _ _ c.requires.y_len c.requires.z_len c.take.ensures c.swap_words.ensures c.run.ensures c.take-2.ensures c.run-2.ensures
