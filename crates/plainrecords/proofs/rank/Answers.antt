-- `plainrecords::rank` meets its contract: where no case applies the marks are good marks of a board.
use mathlib.Core.Path.{refl, ap, ◌∙◌}
use lib.ListN.{length}
use Rattle.laws.specs.Tables.{entries}
use Rattle.ranking.specs.Ranks.{aim_in}
use Rattle.answers.proofs.Entering.{entry_accepted}
use Rattle.plainrecords.proofs.Answering.{rank_known}
use Rattle.plainrecords.proofs.rank.Goals as goal

pub write_ranks-requires : goal.write_ranks-requires
write_ranks-requires c =
    let a = c.args in
    let e = rw c.in_ok-moves.was at c.judge_rank.ensures in
    let k = rank_known a.side a.marks.now (length a.aims.now) e refl in
    record { board_marks = k.good; aims_len = k.aims_long }

pub returns : goal.returns
returns c =
    let a = c.args in
    let e = rw c.in_ok-moves.was at c.judge_rank.ensures in
    let k = rank_known a.side a.marks.now (length a.aims.now) e refl in
    entry_accepted e refl (c.write_ranks.ensures ∙ ap (entries (aim_in a.marks.now) 0) k.marks_long) tt
