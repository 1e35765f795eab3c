-- `texts::read::digits_from` meets its contract: digit after digit, as long as the number is small enough.
use Rattle.std.proofs.Common.{◌∙◌}
use Rattle.texts.proofs.Reading.{no_digit, digits_next, digits_end}
use Rattle.texts.proofs.read.digits_from.Goals as goal

pub returns-in_err-n : goal.returns-in_err-n
returns-in_err-n c =
    c.from_residual.ensures ∙ no_digit c.loop-b.invariant c.loop-b-test.true c.with_digit.ensures c.in_err-n.was

pub loop-b-preserved : goal.loop-b-preserved
loop-b-preserved c =
    digits_next c.loop-b.invariant c.loop-b-test.true c.with_digit.ensures c.in_ok-n.n c.in_ok-n.was

pub returns : goal.returns
returns c = search digits_end
