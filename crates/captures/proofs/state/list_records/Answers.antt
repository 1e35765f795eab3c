-- `captures::state::list_records` meets its contract: cell after cell.
use Rattle.slots.specs.Lanes.{cells_in}
use Rattle.captures.specs.Replays.{held_below}
use Rattle.captures.proofs.Listed.{below_next, below_room}
use Rattle.captures.proofs.state.list_records.Goals as goal

pub loop-i-init : goal.loop-i-init
unfolding held_below
loop-i-init c = c.clear.ensures

pub with_cell-requires : goal.with_cell-requires
with_cell-requires c = below_room _ c.requires.few c.loop-i-test.true c.loop-i.invariant

pub loop-i-preserved : goal.loop-i-preserved
loop-i-preserved c =
    below_next (cells_in c.args.front.now c.args.spare.now) c.loop-i.i c.loop-i.invariant
    (rw (c.record_at.ensures, c.record_at-in-loop-i.ensures) at c.with_cell.ensures)
