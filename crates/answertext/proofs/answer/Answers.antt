-- `answertext::answer` meets its contract: the heading, the moves, the totals, the records.
use Rattle.std.proofs.Common.{rules}
use Rattle.answertext.proofs.Lines.{answer_put}
use Rattle.answertext.proofs.answer.Goals as goal

pub returns : goal.returns
returns c =
    let p = answer_put c.args.codes.now c.args.moved.now c.args.words.now
    c.put.ensures c.put_moves.ensures c.totals_of.ensures c.put_all.ensures c.put_records.ensures in
    search rules
