-- `refusals::judging::all_rising` meets its contract: the aims that were looked at rise.
use Rattle.refusals.proofs.Joined.{Rising}
use Rattle.refusals.proofs.judging.all_rising.Given as goal

abbrev pub invariant-loop-pair : goal.invariant-loop-pair
invariant-loop-pair l = Rising l.aims l.pair-iterator l.all
