-- `refusals::judging::all_rising` meets its contract: the aims that were looked at rise.
use Rattle.refusals.proofs.Joined.{rising_next}
use Rattle.refusals.proofs.judging.all_rising.Goals as goal

pub loop-pair-preserved : goal.loop-pair-preserved
loop-pair-preserved c = rising_next c.in-Some.is c.next.ensures.steps c.loop-pair.invariant
