-- `refusals::judging::all_ranked` meets its contract: the aims that were looked at are right, with the rank carried along (Joined).
use Rattle.refusals.proofs.Joined.{RankedBelow}
use Rattle.refusals.proofs.judging.all_ranked.Given as goal

abbrev pub invariant-loop-i : goal.invariant-loop-i
invariant-loop-i l = RankedBelow l.marks l.aims l.all l.rank l.i
