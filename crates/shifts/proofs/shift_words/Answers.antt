-- `shifts::shift_words` meets its contract: on a board and within its side the words are shifted, by the moves of the list.
use Rattle.std.proofs.Common.{ap, ◌∙◌, to_z-of_z}
use Rattle.laws.proofs.Bools.{passed}
use Rattle.shiftlists.specs.Shifts.{shift_runs}
use Rattle.shifts.proofs.Composing.{within_is, forth_times, home_times, shift_done}
use Rattle.shifts.proofs.shift_words.Goals as goal

pub returns : goal.returns
returns c =
    let a = c.args in
    let k = to_z-of_z c.ranges.k in
    let near = within_is _ _ _ _ a.k k c.from.ensures c.is_within.ensures ∙ c.if-not-is_within.false in
    let runs = c.shift_runs-runs.ensures ∙ ap (shift_runs a.side a.axis a.edge) k in
    shift_done a.side a.axis a.edge a.k _ _ (passed c.is_board.ensures c.if-not-is_board.false) near
    (rw (forth_times a.side a.axis a.edge a.k _ _ near runs, home_times a.side a.axis a.edge a.k _ _ near runs) at c.along.ensures)
