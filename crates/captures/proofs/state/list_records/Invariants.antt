-- `captures::state::list_records` meets its contract: cell after cell.
use mathlib.Core.Path.{◌≡◌}
use Rattle.slots.specs.Lanes.{cells_in}
use Rattle.captures.specs.Replays.{held_below}
use Rattle.captures.proofs.state.list_records.Given as goal

abbrev pub invariant-loop-i : goal.invariant-loop-i
invariant-loop-i l = l.records ≡ held_below (cells_in l.front l.spare) l.i
