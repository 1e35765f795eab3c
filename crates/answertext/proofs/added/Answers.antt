-- `answertext::added` meets its contract: a line more adds its own counts.
use Rattle.answertext.proofs.Adding.{added_none, added_line}
use Rattle.answertext.proofs.added.Goals as goal

pub returns-in_default : goal.returns-in_default
returns-in_default c = search added_none

pub returns : goal.returns
returns c = search added_line
