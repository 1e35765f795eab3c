-- `printing::Printer::put` meets its contract: byte after byte.
use Rattle.printing.proofs.Putting.{put_next}
use Rattle.printing.proofs.Printer.put.Goals as goal

pub loop-byte-preserved : goal.loop-byte-preserved
loop-byte-preserved c = search put_next
