-- `mesh::run_all` meets its contract: group after group.
use Prim.Native.Nat.{◌*◌}
use Rattle.array.specs.Cells.{groups, cells}
use Rattle.array.specs.Lent.{SameLanes}
use Rattle.slots.specs.Lanes.{lent_cells, LongLent}
use Rattle.mesh.proofs.Groups.{Ranged}
use Rattle.mesh.proofs.run_all.Given as goal

abbrev pub invariant-loop-g : goal.invariant-loop-g
invariant-loop-g l = record {
  same : SameLanes l.initial.lanes l.lanes;
  long : LongLent (cells l.by.rule.side) l.lanes;
  ranged : Ranged l.by.rule l.g (l.g * groups l.by.rule.side) (lent_cells l.initial.lanes) (lent_cells l.lanes) l.counts;
}
