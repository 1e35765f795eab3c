-- `light::trade_words` meets its contract: one group after the other has its turn.
use Rattle.light.proofs.Groups.{rounds_turn, rounds_end}
use Rattle.light.proofs.trade_words.Goals as goal

pub loop-g-preserved : goal.loop-g-preserved
loop-g-preserved c = rounds_turn c.loop-g.invariant c.loop-g-test.true c.trade_group.ensures

pub returns : goal.returns
returns c = rounds_end c.loop-g.invariant c.loop-g-test.false
