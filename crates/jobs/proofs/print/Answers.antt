-- `jobs::print` meets its contract: the moves of the list, and the records that are marked.
use borrow.Author.Rules.{rules}
use Rattle.array.proofs.Board.{side_known}
use Rattle.lists.proofs.Counts.{total_on_board}
use Rattle.jobs.proofs.Filling.{printed}
use Rattle.jobs.proofs.print.Goals as goal

pub returns : goal.returns
returns c =
    let a = c.args in
    let all = total_on_board a.job.side _ c.requires.side_value c.total_moves-moves.ensures in
    printed a.job.side a.job.marked _ a.codes.now a.moved.now a.words.now all (side_known a.job.side c.requires.side_value).most
    c.requires.marked_bound (search rules) (search rules) c.requires.words_long c.answer.ensures
