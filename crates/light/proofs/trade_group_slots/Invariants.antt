-- `light::trade_group_slots` meets its contract: turn after turn each cell past place g trades with its partner.
use Rattle.light.specs.Lanes.{slots}
use Rattle.light.proofs.Walking.{Sweeping}
use Rattle.light.proofs.trade_group_slots.Given as goal

abbrev pub invariant-loop-p : goal.invariant-loop-p
invariant-loop-p l = Sweeping l.side l.g l.p (slots l.initial.words l.initial.marks l.initial.aims) (slots l.words l.marks l.aims) l.moved
