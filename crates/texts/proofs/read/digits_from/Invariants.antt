-- `texts::read::digits_from`: digit after digit, as long as the number is small enough.
use Rattle.texts.proofs.Reading.{Digits}
use Rattle.texts.proofs.read.digits_from.Given as goal

abbrev pub invariant-loop-b : goal.invariant-loop-b
invariant-loop-b l = Digits l.field l.n l.b-index
