-- `mesh::lines::put_line` meets its contract: cell after cell its records are put down.
use Rattle.mesh.specs.Inside.{cells_of}
use Rattle.mesh.proofs.Laying.{Settling}
use Rattle.mesh.proofs.lines.put_line.Given as goal

abbrev pub invariant-loop-p : goal.invariant-loop-p
invariant-loop-p l = Settling l.by.rule (cells_of l.fronts l.spares) l.p l.initial.counts l.counts l.line
