use Rattle.plainwords.proofs.Adding.{AddingUp}
use Rattle.plainwords.proofs.add_up.Given as goal

abbrev pub invariant-loop-word : goal.invariant-loop-word
invariant-loop-word l = AddingUp l.initial.words l.words l.sum l.word-index
