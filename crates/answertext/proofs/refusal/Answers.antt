-- `answertext::refusal` meets its contract: the number and the place of the refusal.
use Rattle.std.proofs.Common.{rules}
use Rattle.answertext.proofs.Lines.{refusal_put}
use Rattle.answertext.proofs.refusal.Goals as goal

pub returns : goal.returns
returns c =
    let p = refusal_put c.args.number c.args.place c.put.ensures c.put_field.ensures c.put_field-2.ensures in
    search rules
