-- `ranking::rank` meets its contract: where no case applies the marks are good marks of a board.
use lib.ListN.{length}
use mathlib.Core.Path.{refl}
use Rattle.lists.specs.Lists.{prefix_sum_runs}
use Rattle.answers.proofs.Entering.{entry_accepted, logged}
use Rattle.ranking.proofs.Answering.{marked, aims_long, room}
use Rattle.ranking.proofs.rank.Goals as goal

pub write_ranks-requires : goal.write_ranks-requires
write_ranks-requires c =
    let a = c.args in
    let n = length a.aims.now in
    let log = length a.codes.now in
    let e = rw c.in_ok-moves.was at c.judge_rank.ensures in
    record { good_marks = marked a.side a.marks.now n log e refl; aims_len = aims_long a.side a.marks.now n log e refl }

pub returns : goal.returns
returns c =
    let a = c.args in
    let e = rw c.in_ok-moves.was at c.judge_rank.ensures in
    let fits = room a.side a.marks.now (length a.aims.now) (length a.codes.now) e refl in
    entry_accepted e refl c.write_ranks.ensures (logged (prefix_sum_runs a.side) a.codes.now fits c.prefix_sum_runs.ensures c.write_codes.ensures)
