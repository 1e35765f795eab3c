-- `answertext::totals_of`: the lines of the log are added one after the other.
use Rattle.std.proofs.Common.{◌≡◌, length}
use Rattle.answertext.specs.Log.{line_of, totals_of}
use Rattle.answertext.proofs.totals_of.Given as goal

abbrev pub invariant-loop-code : goal.invariant-loop-code
invariant-loop-code l = l.so_far ≡ totals_of (line_of l.codes l.moved) (length l.yielded)
