-- `spreads::data_sum_words` meets its contract: on a board the lane holds the sum.
use Rattle.std.proofs.Common.{rules}
use Rattle.laws.proofs.Bools.{passed}
use Rattle.spreads.proofs.Composing.{data_sum_done}
use Rattle.spreads.proofs.data_sum_words.Goals as goal

pub returns : goal.returns
returns c = data_sum_done _ _ _ (passed c.is_board.ensures c.if-not-is_board.false) (search rules) c.sum_all.ensures
