use Rattle.printing.proofs.Filling.{filled_fits, filled-part}
use Rattle.job.proofs.main.Goals as goal

pub slice_bounds-out-end : goal.slice_bounds-out-end
slice_bounds-out-end c = filled_fits c.run-count.ensures

pub slice_bounds-write_all-end : goal.slice_bounds-write_all-end
slice_bounds-write_all-end c = filled-part c.run-count.ensures
