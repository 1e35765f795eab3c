-- `mover::run` meets its contract: run after run.
use Rattle.array.specs.Cells.{cells}
use Rattle.array.specs.Lent.{SameLanes}
use Rattle.slots.specs.Lanes.{lent_cells, LongLent}
use Rattle.mover.proofs.Running.{Running}
use Rattle.mover.proofs.run.Given as goal

abbrev pub invariant-loop-run : goal.invariant-loop-run
invariant-loop-run l = record {
  same : SameLanes l.initial.lanes l.lanes;
  long : LongLent (cells l.side) l.lanes;
  running : Running l.trip l.side l.fn.runs l.cut l.run-index l.done l.swaps (lent_cells l.initial.lanes) (lent_cells l.lanes) l.initial.moved l.moved;
}
