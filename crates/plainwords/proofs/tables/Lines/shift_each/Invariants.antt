use Rattle.plainwords.specs.Inside.{BoardShiftedBy}
use Rattle.plainwords.proofs.tables.Lines.shift_each.Given as goal

abbrev pub invariant-loop-block : goal.invariant-loop-block
invariant-loop-block l = BoardShiftedBy l.self l.block l.initial.words l.words
