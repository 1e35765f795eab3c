-- `spreads::broadcast_words` meets its contract: on a board with such a cell the lane holds its word.
use Rattle.laws.proofs.Bools.{passed}
use Rattle.spreads.proofs.Composing.{broadcast_done}
use Rattle.spreads.proofs.broadcast_words.Goals as goal

pub returns : goal.returns
returns c =
    broadcast_done _ _ _ _ (passed c.is_board.ensures c.if-not-is_board.false) (passed c.is_cell.ensures c.if-not-is_cell.false)
    c.spread_all.ensures
