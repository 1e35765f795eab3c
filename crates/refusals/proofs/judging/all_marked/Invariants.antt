-- `refusals::judging::all_marked` meets its contract: the cells that were looked at are marked.
use Rattle.refusals.specs.Inside.{AllMarked}
use Rattle.refusals.proofs.judging.all_marked.Given as goal

abbrev pub invariant-loop-mark : goal.invariant-loop-mark
invariant-loop-mark l = AllMarked l.mark-index l.marks l.all
