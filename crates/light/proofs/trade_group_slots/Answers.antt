-- `light::trade_group_slots` meets its contract: turn after turn each cell past place g trades with its partner.
use native.Mathlib.Omega.{arith}
use Rattle.light.specs.Lanes.{held}
use Rattle.light.proofs.Partners.{listed_ref}
use Rattle.light.proofs.Groups.{trades_other, trades_later}
use Rattle.light.proofs.Walking.{sweeping_start, sweeping_step, sweeping_end, slots_side}
use Rattle.light.proofs.trade_group_slots.Goals as goal

pub across-q-requires-clause-listed : goal.across-q-requires-clause-listed
across-q-requires-clause-listed c = listed_ref _ _ _ _ c.as_ref.ensures.value c.group_links-links.ensures

pub loop-p-init : goal.loop-p-init
loop-p-init c = sweeping_start _ c.requires.board c.requires.in_range

pub trade_slot-moved-requires-clause-order : goal.trade_slot-moved-requires-clause-order
trade_slot-moved-requires-clause-order c = trades_later c.loop-p.invariant.words c.loop-p-test.true c.across-q.ensures

pub trade_slot-moved-requires-clause-has_cell : goal.trade_slot-moved-requires-clause-has_cell
trade_slot-moved-requires-clause-has_cell c =
    let i = c.loop-p.invariant in
    let q = trades_other i.words _ c.loop-p-test.true c.across-q.ensures in
    record { words = omega (arith, i.words.long, q); marks = omega (arith, i.marks.long, q); aims = omega (arith, i.aims.long, q) }

pub loop-p-preserved : goal.loop-p-preserved
loop-p-preserved c = sweeping_step c.loop-p.invariant c.loop-p-test.true c.across-q.ensures c.trade_slot-moved.ensures

pub returns-clause-turned : goal.returns-clause-turned
returns-clause-turned c =
    sweeping_end c.loop-p-test.false
    (slots_side c.args.side (held c.args.slots.now) c.requires.board) c.loop-p.invariant
