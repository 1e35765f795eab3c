-- `light::trade_words` meets its contract: one group after the other has its turn.
use Rattle.light.proofs.Groups.{Rounds}
use Rattle.light.proofs.trade_words.Given as goal

abbrev pub invariant-loop-g : goal.invariant-loop-g
invariant-loop-g l = Rounds l.side l.g l.initial.lane l.lane
