-- `answertext::put_moves`: line after line of the log.
use Rattle.std.proofs.Common.{length}
use Rattle.printing.specs.Printed.{rows}
use Rattle.printing.specs.Printers.{Put}
use Rattle.answertext.specs.Log.{line_of}
use Rattle.answertext.specs.Answers.{move_row}
use Rattle.answertext.proofs.put_moves.Given as goal

abbrev pub invariant-loop-i : goal.invariant-loop-i
invariant-loop-i l = Put (rows (move_row (line_of l.codes l.moved)) (length l.yielded)) l.initial.printer l.printer
