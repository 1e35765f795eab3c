-- `light::trade_places` meets its contract: turn after turn each cell past place g trades with its partner.
use native.Mathlib.Omega.{arith}
use Rattle.light.proofs.Groups.{trades_other, trades_later, trades_start, trades_turn, trades_end}
use Rattle.light.proofs.trade_places.Goals as goal

pub loop-p-init : goal.loop-p-init
loop-p-init c = trades_start c.requires.board c.requires.in_range

pub exchange-requires-clause-order : goal.exchange-requires-clause-order
exchange-requires-clause-order c = trades_later c.loop-p.invariant c.loop-p-test.true c.across-q.ensures

pub exchange-requires-clause-in_range : goal.exchange-requires-clause-in_range
exchange-requires-clause-in_range c =
    omega (arith, trades_other c.loop-p.invariant _ c.loop-p-test.true c.across-q.ensures)

pub loop-p-preserved : goal.loop-p-preserved
loop-p-preserved c =
    rw c.exchange.ensures (trades_turn c.loop-p.invariant c.loop-p-test.true c.across-q.ensures)

pub returns : goal.returns
returns c = trades_end c.loop-p.invariant c.loop-p-test.false
