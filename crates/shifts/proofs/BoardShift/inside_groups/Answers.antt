-- `shifts::BoardShift::inside_groups` meets its contract: what went forth, what went around, and the choice between them.
use Rattle.std.proofs.Common.{◌∙◌, arith}
use Rattle.shifts.proofs.Composing.{shift_lanes, chosen_none, chosen_all, chosen_below}
use Rattle.shifts.proofs.BoardShift.inside_groups.Goals as goal

pub returns-then-self-eq0 : goal.returns-then-self-eq0
returns-then-self-eq0 c =
    let x = c.args.self in
    shift_lanes _ c.args.way x.shift _ x.forth x.around c.opposite.ensures c.copy_from_slice.ensures.after c.run.ensures c.run-2.ensures
    (chosen_none x.side c.args.way x.shift _ _ (omega arith))

pub returns-in-ZeroFill : goal.returns-in-ZeroFill
returns-in-ZeroFill c =
    let x = c.args.self in
    shift_lanes _ c.args.way x.shift _ x.forth x.around c.opposite.ensures c.copy_from_slice.ensures.after c.run.ensures c.run-2.ensures
    (c.copy_from_slice-in-ZeroFill.ensures.after ∙ chosen_all x.side c.args.way x.shift _ _ (omega arith) c.in-ZeroFill.is (omega arith))

pub returns-in-Circular : goal.returns-in-Circular
returns-in-Circular c =
    let x = c.args.self in
    shift_lanes _ c.args.way x.shift _ x.forth x.around c.opposite.ensures c.copy_from_slice.ensures.after c.run.ensures c.run-2.ensures
    (c.take_below.ensures ∙ chosen_below x.side c.args.way x.shift _ _ (omega arith) c.in-Circular.is)
