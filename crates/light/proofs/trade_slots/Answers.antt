-- `light::trade_slots` meets its contract: one group after the other has its turn.
use Rattle.std.proofs.Common.{rules}
use Rattle.light.proofs.Walking.{walking_step, walking_end}
use Rattle.light.proofs.trade_slots.Goals as goal

pub loop-g-preserved : goal.loop-g-preserved
loop-g-preserved c = record {
  same = search rules;
  walked = walking_step c.loop-g-test.true c.loop-g.invariant.walked c.trade_group_slots-moved.ensures.turned;
}

pub returns-clause-once : goal.returns-clause-once
returns-clause-once c = walking_end c.loop-g-test.false c.loop-g.invariant.walked
