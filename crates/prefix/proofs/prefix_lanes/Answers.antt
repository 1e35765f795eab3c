-- `prefix::prefix_lanes` meets its contract: the four parts, one after the other.
use Rattle.prefix.proofs.Composing.{prefix_lanes_moves}
use Rattle.prefix.proofs.prefix_lanes.Goals as goal

pub returns : goal.returns
returns c = prefix_lanes_moves _ c.rows_and_columns.ensures c.group_sums.ensures c.modify.ensures c.finish.ensures
