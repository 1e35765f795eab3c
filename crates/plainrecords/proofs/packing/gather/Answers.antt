-- `plainrecords::packing::gather` meets its contract: cell after cell, each word at the rank of its cell.
use Rattle.plainrecords.proofs.Gathering.{gathering_next}
use Rattle.plainrecords.proofs.packing.gather.Goals as goal

pub loop-i-preserved : goal.loop-i-preserved
loop-i-preserved c =
    gathering_next _ c.requires.board_marks c.requires.words_len c.loop-i-test.true c.from-rank.ensures c.loop-i.invariant
