-- `ranking::write_ranks` meets its contract: a board has at most 4,096 cells.
use Rattle.array.proofs.Board.{side_known}
use Rattle.ranking.proofs.write_ranks.Goals as goal

pub write_within-requires-else-marks-le256-clause-marks_len_bound : goal.write_within-requires-else-marks-le256-clause-marks_len_bound
write_within-requires-else-marks-le256-clause-marks_len_bound c =
    rw c.requires.good_marks.size (side_known c.args.side c.requires.good_marks.side).cells_few
