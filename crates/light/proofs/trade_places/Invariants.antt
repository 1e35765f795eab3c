-- `light::trade_places` meets its contract: turn after turn each cell past place g trades with its partner.
use Rattle.light.proofs.Groups.{Trades}
use Rattle.light.proofs.trade_places.Given as goal

abbrev pub invariant-loop-p : goal.invariant-loop-p
invariant-loop-p l = Trades l.side l.g l.p l.initial.lane l.lane
