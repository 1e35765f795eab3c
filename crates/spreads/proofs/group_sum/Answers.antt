-- `spreads::group_sum` meets its contract: four runs, one after the other.
use Rattle.spreads.proofs.Composing.{group-sum-moves}
use Rattle.spreads.proofs.group_sum.Goals as goal

pub returns : goal.returns
returns c =
    group-sum-moves _ c.run.ensures c.run-2.ensures c.run-3.ensures c.run-4.ensures
