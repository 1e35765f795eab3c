-- `answertext::put_all` meets its contract: the totals of the log, field after field.
use Rattle.answertext.proofs.Lines.{all_put}
use Rattle.answertext.proofs.put_all.Goals as goal

pub returns : goal.returns
returns c = search all_put
