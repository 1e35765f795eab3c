-- `answertext::put_records`: record after record.
use Rattle.printing.specs.Printed.{rows}
use Rattle.printing.specs.Printers.{Put}
use Rattle.answertext.specs.Answers.{record_row}
use Rattle.answertext.proofs.put_records.Given as goal

abbrev pub invariant-loop-cell : goal.invariant-loop-cell
invariant-loop-cell l = Put (rows (record_row l.words) l.cell) l.initial.printer l.printer
