-- `shifts::BoardShift::along` meets its contract: on an axis of the groups a swap, the shift inside the groups, a swap.
use Rattle.shifts.proofs.Composing.{shift-groups}
use Rattle.shifts.proofs.BoardShift.along.Goals as goal

pub returns-in-GroupRow : goal.returns-in-GroupRow
returns-in-GroupRow c =
    rw c.in-GroupRow.is
    (shift-groups _ _ c.swap_words.ensures c.inside_groups-in-GroupRow.ensures c.swap_words-in-GroupRow.ensures)

pub returns-in-GroupColumn : goal.returns-in-GroupColumn
returns-in-GroupColumn c =
    rw c.in-GroupColumn.is
    (shift-groups _ _ c.swap_words-in-GroupColumn.ensures c.inside_groups-in-GroupColumn.ensures c.swap_words-in-GroupColumn-2.ensures)
