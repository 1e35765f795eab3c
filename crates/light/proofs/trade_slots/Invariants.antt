use Rattle.array.specs.Lent.{SameSlots}
use Rattle.light.specs.Lanes.{held}
use Rattle.light.proofs.Walking.{Walking}
use Rattle.light.proofs.trade_slots.Given as goal

abbrev pub invariant-loop-g : goal.invariant-loop-g
invariant-loop-g l = record {
  same : SameSlots l.initial.slots l.slots;
  walked : Walking l.side l.g (held l.initial.slots) (held l.slots) l.moved;
}
