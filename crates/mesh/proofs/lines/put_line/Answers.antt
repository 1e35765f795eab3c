-- `mesh::lines::put_line` meets its contract: cell after cell its records are put down.
use native.Mathlib.Omega.{arith}
use Rattle.mesh.proofs.Ruling.{known}
use Rattle.mesh.proofs.Laying.{settling_start, settling_step, settling_few, put_few, no_cells}
use Rattle.mesh.proofs.lines.put_line.Goals as goal

pub loop-p-init : goal.loop-p-init
loop-p-init c = settling_start _ _ (no_cells 8 c.empty-none.ensures)

pub put_down-requires-clause-roomy : goal.put_down-requires-clause-roomy
put_down-requires-clause-roomy c = record {
  room = λ d h. omega (arith, settling_few (known c.args.by).most c.loop-p-test.true c.loop-p.invariant d h, c.requires.room d h);
}

pub put_down-requires-in-loop-p-clause-roomy : goal.put_down-requires-in-loop-p-clause-roomy
put_down-requires-in-loop-p-clause-roomy c = record {
  room = λ d h.
      let few = settling_few (known c.args.by).most c.loop-p-test.true c.loop-p.invariant d h in
      omega (arith, few, c.requires.room d h, put_few c.put_down.ensures d h);
}

pub loop-p-preserved : goal.loop-p-preserved
loop-p-preserved c =
    settling_step c.loop-p-test.true c.put_down.ensures c.put_down-in-loop-p.ensures c.loop-p.invariant
