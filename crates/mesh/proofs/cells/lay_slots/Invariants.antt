-- `mesh::cells::lay_slots` meets its contract: cell after cell of the line.
use lib.ListN.{get_or}
use Rattle.array.specs.Lent.{SameSlots}
use Rattle.slots.specs.Cells.{nothing}
use Rattle.slots.specs.Lanes.{records_in}
use Rattle.mesh.specs.Inside.{Laid}
use Rattle.mesh.proofs.cells.lay_slots.Given as goal

abbrev pub invariant-loop-p : goal.invariant-loop-p
invariant-loop-p l = record {
  same : SameSlots l.initial.slots l.slots;
  laid : Laid l.by.rule l.start l.p (λ q. get_or l.x-items q nothing) (records_in l.initial.slots) (records_in l.slots);
}
