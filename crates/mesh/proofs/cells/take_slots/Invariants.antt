-- `mesh::cells::take_slots` meets its contract: cell after cell of the line.
use Rattle.slots.specs.Lanes.{records_in}
use Rattle.mesh.proofs.Slots.{Taking}
use Rattle.mesh.proofs.cells.take_slots.Given as goal

abbrev pub invariant-loop-p : goal.invariant-loop-p
invariant-loop-p l = Taking l.by.rule l.start l.p (records_in l.slots) l.record-items
