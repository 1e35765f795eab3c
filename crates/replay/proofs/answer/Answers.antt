-- `replay::answer` meets its contract: the line that it writes is a part of the buffer.
use Rattle.printing.proofs.Filling.{filled_fits, filled-part}
use Rattle.replay.proofs.answer.Goals as goal

pub slice_bounds-out-end : goal.slice_bounds-out-end
slice_bounds-out-end g c = filled_fits c.run-count.ensures

pub slice_bounds-write_all-end : goal.slice_bounds-write_all-end
slice_bounds-write_all-end g c = filled-part c.run-count.ensures
