-- `lanes::steps::join_places` meets its contract: what a place joins is still as it was.
use Rattle.std.proofs.Common.{refl}
use Rattle.lanes.proofs.Laying.{laid_next, laid_ahead, laid_behind}
use Rattle.lanes.proofs.steps.join_places.Goals as goal

pub loop-k-preserved : goal.loop-k-preserved
loop-k-preserved g c =
    let line = c.requires.line_in in
    let own = laid_ahead line.written c.loop-k.invariant in
    let other = laid_behind line.apart c.loop-k-test.true c.loop-k.invariant in
    laid_next _ line.written refl c.loop-k-test.true (rw (own, other) at c.step.ensures) c.loop-k.invariant
