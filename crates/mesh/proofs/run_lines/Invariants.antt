-- `mesh::run_lines` meets its contract: line after line.
use Rattle.array.specs.Cells.{groups}
use Rattle.array.specs.Lent.{SameLanes}
use Rattle.slots.specs.Lanes.{lent_cells, LongLent}
use Rattle.mesh.proofs.Groups.{Lined}
use Rattle.mesh.proofs.run_lines.Given as goal

abbrev pub invariant-loop-l : goal.invariant-loop-l
invariant-loop-l l = record {
  same : SameLanes l.initial.lanes l.lanes;
  long : LongLent (groups l.by.rule.side) l.lanes;
  lined : Lined l.by.rule l.l (lent_cells l.initial.lanes) (lent_cells l.lanes) l.initial.counts l.counts;
}
