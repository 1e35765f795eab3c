-- `array::cells::is_cells` meets its contract: a side whose number of cells does not fit has no length that is it.
use Rattle.array.proofs.Fourth.{told_cells}
use Rattle.array.proofs.cells.is_cells.Goals as goal

pub returns : goal.returns
returns c = told_cells c.args.side c.args.n _ c.checked_pow.result c.ranges.n.fits c.checked_pow.ensures c.eq.ensures
