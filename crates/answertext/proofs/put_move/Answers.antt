-- `answertext::put_move` meets its contract: the number, the move and its count.
use Rattle.answertext.proofs.Lines.{no_move_put, move_put}
use Rattle.answertext.proofs.put_move.Goals as goal

pub returns-in_default : goal.returns-in_default
returns-in_default c = search no_move_put

pub returns : goal.returns
returns c = search move_put
