use Rattle.plainwords.specs.Inside.{named, BlocksShifted}
use Rattle.plainwords.proofs.lines.shift_rows.Given as goal

abbrev pub invariant-loop-i : goal.invariant-loop-i
invariant-loop-i l = BlocksShifted 8 1 (named 8 l.from) l.i l.initial.words l.words
