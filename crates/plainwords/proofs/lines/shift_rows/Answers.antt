-- `plainwords::lines::shift_rows` meets its contract: row after row.
use Rattle.plainwords.proofs.Shifting.{blocks_next}
use Rattle.plainwords.proofs.lines.shift_rows.Goals as goal

pub loop-i-preserved : goal.loop-i-preserved
loop-i-preserved c = blocks_next c.loop-i.invariant c.shift_line.ensures
