use mathlib.Core.Path.{◌≡◌}
use mathlib.Core.Bool.{true}
use Rattle.array.specs.Lent.{slots_fit, SameSlots}
use Rattle.light.specs.Lanes.{held}
use Rattle.light.specs.Inside.{Times}
use Rattle.light.proofs.trade_times.Given as goal

abbrev pub invariant-loop : goal.invariant-loop
invariant-loop l = record {
  board : slots_fit l.side l.initial.slots ≡ true;
  same : SameSlots l.initial.slots l.slots;
  swapped : Times l.side l.counter (held l.initial.slots) (held l.slots) l.moved;
}
