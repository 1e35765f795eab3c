-- `answertext::put_record` meets its contract: the cell and its word.
use Rattle.answertext.proofs.Lines.{record_put}
use Rattle.answertext.proofs.put_record.Goals as goal

pub returns : goal.returns
returns c = search record_put
