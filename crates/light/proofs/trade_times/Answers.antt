-- `light::trade_times` meets its contract: swap after swap, where the lanes are a board's.
use Rattle.std.proofs.Common.{rules}
use Rattle.laws.proofs.Bools.{passed, failed}
use Rattle.light.proofs.Walking.{times_start, times_next}
use Rattle.light.proofs.trade_times.Goals as goal

pub loop-init : goal.loop-init
loop-init c = record { board = passed c.fit.ensures c.if-fit.true; same = search rules; swapped = times_start _ _ }

pub loop-preserved : goal.loop-preserved
loop-preserved c = record {
  board = c.loop.invariant.board;
  same = search rules;
  swapped = times_next c.loop.invariant.board c.loop.invariant.swapped c.trade_slots-moved.ensures.once;
}

pub returns-else-fit-clause-times : goal.returns-else-fit-clause-times
returns-else-fit-clause-times c = rw (failed c.fit.ensures c.if-fit.false) (times_start _ _)
