-- `answertext::put_records` meets its contract: record after record.
use Rattle.printing.proofs.Putting.{no_rows}
use Rattle.answertext.proofs.Lines.{records_next}
use Rattle.answertext.proofs.put_records.Goals as goal

pub loop-cell-init : goal.loop-cell-init
loop-cell-init c = search no_rows

pub loop-cell-preserved : goal.loop-cell-preserved
loop-cell-preserved c = search records_next
